-- Where the events of a trace are among the steps of its run, and where the threads leave what they entered.
use Rattle.std.specs.Prelude.{◌≡◌, ◌<◌, ◌+◌, ◌≤◌, ℕ, List, [], ◌++◌, codes, decimal, length, Option, Some, None}
use Rattle.std.specs.List.{slice_index_or}
use Rattle.ir_runs.specs.Machine.{LeftAt}
use Rattle.ir_runs.specs.Run.{Emits}
use Rattle.ir_runs.specs.declared.access.Access.{Access}
use Rattle.ir_runs.specs.declared.access.Access.TheVariants.{Reading, Writing}
use Rattle.ir_log.specs.declared.event.Event.{Event}
use Rattle.ir_log.specs.declared.event.Event.TheVariants.{Answer, Read, Write, Try}
use Rattle.ir_fit.specs.Fit.{FittedTrace, HasRun}
use Rattle.ir_fit.specs.declared.leave.Leave.{Leave}
use Rattle.ir_cut.specs.Positions.{EachRun, machine_of, start_of}
use Rattle.ir_past.specs.Past.{event_at, entered}
use Rattle.ir_events.specs.Events.{entries_of, event_entry}

-- thread t of the guest has an event i
pub record IsInside (f : FittedTrace) (t i : ℕ) : Type 0 where
  pub thread : t < length f.guest.entries
  pub event : i < length (entries_of f t)

-- step k of thread t, at position `from` or past it, leaves object o after such access at version v
abbrev pub LeavesFrom : FittedTrace → ℕ → ℕ → ℕ → Access → ℕ → ℕ → Type 0
LeavesFrom f t from o access v k = (from ≤ k) × EachRun f (λ run. Emits (machine_of f) (start_of f) run t k (LeftAt o access v))

-- so of what an event entered; an event that is no entry leaves nothing
abbrev pub EntryLeaves : FittedTrace → ℕ → ℕ → Option Event → ℕ → Type 0
EntryLeaves f t from None k = ⊥
EntryLeaves f t from (Some (Answer kind value)) k = ⊥
EntryLeaves f t from (Some (Read o v)) k = LeavesFrom f t from o Reading v k
EntryLeaves f t from (Some (Write o v readers)) k = LeavesFrom f t from o Writing v k
EntryLeaves f t from (Some (Try o)) k = ⊥

-- step k of thread t is past its event i, and leaves the object that the event entered
abbrev pub LeavesAfter : FittedTrace → ℕ → ℕ → ℕ → Type 0
LeavesAfter f t i k = EntryLeaves f t (event_entry f t i + 1) (event_at f.recorded t i) k

-- and is the first that does
pub record IsLeaveOf (f : FittedTrace) (t i k : ℕ) : Type 0 where
  pub leaves : LeavesAfter f t i k
  pub first : (j : ℕ) → LeavesAfter f t i j → k ≤ j

-- an event enters object o so, at version v
abbrev pub EntersAt : Event → ℕ → Access → ℕ → Type 0
EntersAt (Answer kind value) o a v = ⊥
EntersAt (Read p w) o a v = (o ≡ p) × (a ≡ Reading) × (v ≡ w)
EntersAt (Write p w readers) o a v = (o ≡ p) × (a ≡ Writing) × (v ≡ w)
EntersAt (Try p) o a v = ⊥

-- a leave is of object o after such access at version v
abbrev pub IsLeaveAs : Leave → ℕ → Access → ℕ → Type 0
IsLeaveAs l o a v = (l.object ≡ o) × (l.access ≡ a) × (l.version ≡ v)

-- none of these leaves from number `start` to below number n is so
abbrev pub NoLeaveAs : List Leave → ℕ → ℕ → ℕ → Access → ℕ → Type 0
NoLeaveAs ls start n o a v = (j : ℕ) (d : Leave) → start ≤ j → j < n → IsLeaveAs (slice_index_or ls j d) o a v → ⊥

-- the first of them from there on that is so is at position k
pub record IsFirstLeaveAs (ls : List Leave) (start o : ℕ) (a : Access) (v k : ℕ) : Type 0 where
  pub number : ℕ
  pub from : start ≤ number
  pub within : number < length ls
  pub is : (d : Leave) → IsLeaveAs (slice_index_or ls number d) o a v
  pub there : (d : Leave) → (slice_index_or ls number d).position ≡ k
  pub before : NoLeaveAs ls start number o a v

-- the law: what an event of a run's trace enters its thread leaves
abbrev pub EventsLeft : Type 0
EventsLeft = (f : FittedTrace) → HasRun f → (t i o : ℕ) (e : Event) → event_at f.recorded t i ≡ Some e → entered e ≡ Some o
    → (k : ℕ) × IsLeaveOf f t i k

-- so of a step, if there is one; none, if no step does
abbrev pub IsLeft : FittedTrace → ℕ → ℕ → Option ℕ → Type 0
IsLeft f t i None = (k : ℕ) → LeavesAfter f t i k → ⊥
IsLeft f t i (Some k) = IsLeaveOf f t i k

-- how many steps come before one, in words
abbrev pub step_part : ℕ → List ℕ
step_part k = codes " step " ++ decimal k

-- so of a step, if there is one
abbrev pub step_if : Option ℕ → List ℕ
step_if None = []
step_if (Some k) = step_part k
