-- Positions on the way to the least and the greatest consistent cut.
use Rattle.std.specs.Prelude.{◌≡◌, ℕ, suc, ◌-◌, ◌<◌, ◌≤◌, List, length, slice_get, Some}
use Rattle.ir_runs.specs.Machine.{Label, EnteredAt, LeftAt}
use Rattle.ir_runs.specs.declared.access.Access.{Access}
use Rattle.ir_runs.specs.Run.{Step, Emits, IsNeededBy, Cut, IsCut, Consistent, IsLeast, IsGreatest}
use Rattle.ir_log.specs.Logging.{label_of}
use Rattle.ir_log.specs.declared.event.Event.{Event}
use Rattle.ir_trace.specs.Recorded.{recorded_thread}
use Rattle.ir_runs.specs.Verdicts.{sum_below}
use Rattle.ir_fit.specs.Fit.{FittedTrace}
use Rattle.ir_fit.specs.Placed.{placed_at, placed_of}
use Rattle.ir_fit.specs.declared.leave.Leave.{Leave}
use Rattle.ir_cut.specs.Positions.{machine_of, start_of, cut_of, EachRun}

-- the steps that tell so are inside the cut
abbrev pub AreInside : FittedTrace → List Step → (Label → Type 0) → Cut → Type 0
AreInside f run P c = (t i : ℕ) (k : Label) → Emits (machine_of f) (start_of f) run t i k → P k → i < c t

-- the steps that tell so are outside
abbrev pub AreOutside : FittedTrace → List Step → (Label → Type 0) → Cut → Type 0
AreOutside f run P c = (t i : ℕ) (k : Label) → Emits (machine_of f) (start_of f) run t i k → P k → c t ≤ i

-- the least positions at or above the old ones with the steps that tell so inside
pub record RaisedFor (f : FittedTrace) (run : List Step) (P : Label → Type 0) (old new : List ℕ) : Type 0 where
  pub size : length new ≡ length old
  pub above : (u : ℕ) → cut_of old u ≤ cut_of new u
  pub inside : AreInside f run P (cut_of new)
  pub least : (c : Cut) → ((u : ℕ) → cut_of old u ≤ c u) → AreInside f run P c → (u : ℕ) → cut_of new u ≤ c u

-- the greatest positions at or below the old ones with the steps that tell so outside
pub record LoweredFor (f : FittedTrace) (run : List Step) (P : Label → Type 0) (old new : List ℕ) : Type 0 where
  pub size : length new ≡ length old
  pub below : (u : ℕ) → cut_of new u ≤ cut_of old u
  pub outside : AreOutside f run P (cut_of new)
  pub greatest : (c : Cut) → ((u : ℕ) → c u ≤ cut_of old u) → AreOutside f run P c → (u : ℕ) → c u ≤ cut_of new u

-- what an entry that emits k needs
abbrev pub NeededBy : Label → Label → Type 0
NeededBy k emitted = IsNeededBy emitted k

-- what needs a leave
abbrev pub Needing : Leave → Label → Type 0
Needing l emitted = IsNeededBy (LeftAt l.object l.access l.version) emitted

-- an entry of object o at version v
abbrev pub IsEntryAt : ℕ → ℕ → Label → Type 0
IsEntryAt o v emitted = (a : Access) × (l : ℕ) × (emitted ≡ EnteredAt o a v l)

-- on the way from ps up to the least cut with thread t at k or more: no position is above that cut's, and what the events
-- counted by next need is inside
pub record Rising (f : FittedTrace) (ps : List ℕ) (t k : ℕ) (qs next : List ℕ) (run : List Step) : Type 0 where
  pub above : (u : ℕ) → cut_of ps u ≤ cut_of qs u
  pub reaches : k ≤ cut_of qs t
  pub cut : IsCut (machine_of f) (start_of f) run (cut_of qs)
  pub least : (c : Cut) → IsCut (machine_of f) (start_of f) run c → Consistent (machine_of f) (start_of f) run c
      → ((u : ℕ) → cut_of ps u ≤ c u) → k ≤ c t → (u : ℕ) → cut_of qs u ≤ c u
  pub met : (u e : ℕ) (x : Event) → e < cut_of next u → slice_get (recorded_thread f.recorded u).events e ≡ Some x
      → AreInside f run (NeededBy (label_of x)) (cut_of qs)

-- on the way from ps down to the greatest cut with thread t at k or less: no position is below that cut's, and what needs the
-- leaves after those counted by next is outside
pub record Falling (f : FittedTrace) (ps : List ℕ) (t k : ℕ) (qs next : List ℕ) (run : List Step) : Type 0 where
  pub below : (u : ℕ) → cut_of qs u ≤ cut_of ps u
  pub reaches : cut_of qs t ≤ k
  pub greatest : (c : Cut) → IsCut (machine_of f) (start_of f) run c → Consistent (machine_of f) (start_of f) run c
      → ((u : ℕ) → c u ≤ cut_of ps u) → c t ≤ k → (u : ℕ) → c u ≤ cut_of qs u
  pub unmet : (u e : ℕ) (l : Leave) → cut_of next u ≤ e → slice_get (placed_at (placed_of f) u).leaves e ≡ Some l
      → AreOutside f run (Needing l) (cut_of qs)

-- the event of thread u that comes after those counted by next is no step of the cut
abbrev pub NoneBelow : FittedTrace → List ℕ → List ℕ → ℕ → Type 0
NoneBelow f qs next u = (i : ℕ) → slice_get (placed_at (placed_of f) u).entries (cut_of next u) ≡ Some i → cut_of qs u ≤ i

-- the leaves of thread u counted by next are steps of the cut
abbrev pub NoneAbove : FittedTrace → List ℕ → List ℕ → ℕ → Type 0
NoneAbove f qs next u = (e : ℕ) (l : Leave) → e < cut_of next u → slice_get (placed_at (placed_of f) u).leaves e ≡ Some l
    → l.position < cut_of qs u

-- its next event is a step of the cut
abbrev pub HasBelow : FittedTrace → List ℕ → List ℕ → ℕ → Type 0
HasBelow f qs next u = (i : ℕ) × (slice_get (placed_at (placed_of f) u).entries (cut_of next u) ≡ Some i) × (i < cut_of qs u)

-- the last of the leaves of thread u counted by next is no step of the cut
abbrev pub HasAbove : FittedTrace → List ℕ → List ℕ → ℕ → Type 0
HasAbove f qs next u = (e : ℕ) × (l : Leave) × (cut_of next u ≡ suc e) × (slice_get (placed_at (placed_of f) u).leaves e ≡ Some l)
    × (cut_of qs u ≤ l.position)

-- the first n events of thread u are steps of the cut
abbrev pub AreFirst : FittedTrace → List ℕ → ℕ → ℕ → Type 0
AreFirst f ps u n = (e i : ℕ) → e < n → slice_get (placed_at (placed_of f) u).entries e ≡ Some i → i < cut_of ps u

-- no leave of thread u after the first n is a step of the cut, and there are at least n
pub record AreRest (f : FittedTrace) (ps : List ℕ) (u n : ℕ) : Type 0 where
  pub some : n ≤ length (placed_at (placed_of f) u).leaves
  pub outside : (e : ℕ) (l : Leave) → n ≤ e → slice_get (placed_at (placed_of f) u).leaves e ≡ Some l → cut_of ps u ≤ l.position

-- each thread has the leaves that next counts
pub record AreLeaves (f : FittedTrace) (next : List ℕ) : Type 0 where
  pub each : length next ≡ length f.guest.entries
  pub some : (t : ℕ) → t < length f.guest.entries → cut_of next t ≤ length (placed_at (placed_of f) t).leaves

-- what the steps of thread t in the cut need is in it
abbrev pub IsClosedCut : FittedTrace → List Step → Cut → ℕ → Type 0
IsClosedCut f run c t = (i : ℕ) (k : Label) → Emits (machine_of f) (start_of f) run t i k → i < c t → AreInside f run (NeededBy k) c

-- how many events of the threads come after those counted by next
abbrev pub events_left : FittedTrace → List ℕ → ℕ
events_left f next = sum_below (length f.guest.entries) (λ t. length (placed_at (placed_of f) t).entries - cut_of next t)

-- how many leaves these are together
abbrev pub leaves_left : List ℕ → ℕ
leaves_left next = sum_below (length next) (cut_of next)

-- the consistent cut at or above ps with thread t at k or more that lies below every other such
abbrev pub IsLeastCut : FittedTrace → List ℕ → ℕ → ℕ → List ℕ → Type 0
IsLeastCut f ps t k qs = (length qs ≡ length f.guest.entries)
    × EachRun f (λ run. IsLeast (machine_of f) (start_of f) run (cut_of ps) t k (cut_of qs))

-- the consistent cut at or below ps with thread t at k or less that lies above every other such
abbrev pub IsGreatestCut : FittedTrace → List ℕ → ℕ → ℕ → List ℕ → Type 0
IsGreatestCut f ps t k qs = (length qs ≡ length f.guest.entries)
    × EachRun f (λ run. IsGreatest (machine_of f) (start_of f) run (cut_of ps) t k (cut_of qs))
