-- The first step by which a thread leaves what it entered.
use Rattle.std.proofs.Common.{◌≡◌, ◌+◌, ◌<◌, ◌≤◌, ◌^◌, ℕ, true, false, ltb, ltb-true, ltb-false, List, get_or, length, refl, sym, ap, subst, arith, inl, inr}
use Rattle.std.specs.Prelude.{Option, Some, None, IfSome, IfNone}
use Rattle.std.specs.List.Sorted.{IsNonDecreasingBy, IsPartitionPoint}
use Rattle.std.proofs.lemmas.Bool.{cases_lt}
use Rattle.std.proofs.lemmas.Option.{slice_get_within, none-some}
use Rattle.ir_runs.specs.Machine.{Label, LeftAt}
use Rattle.ir_runs.specs.Run.{trail, At, Emits}
use Rattle.ir_runs.specs.declared.access.Access.{Access}
use Rattle.ir_runs.specs.declared.access.Access.TheVariants.{Reading, Writing}
use Rattle.ir_thread.specs.State as thread
use Rattle.ir_log.specs.declared.event.Event.{Event}
use Rattle.ir_log.specs.declared.event.Event.TheVariants.{Answer, Read, Write, Try}
use Rattle.ir_trace.specs.Recorded.{Recorded, recorded_thread}
use Rattle.ir_coherence.proofs.CallerLemmas.{recorded_thread_fits}
use Rattle.ir_fit.specs.Fit.{FittedTrace, HasRun}
use Rattle.ir_fit.specs.Placed.{placed_at, placed_of}
use Rattle.ir_fit.specs.Within.{IsFitted}
use Rattle.ir_fit.specs.declared.leave.Leave.{Leave}
use Rattle.ir_fit.proofs.CallerLemmas.{entries_count_events, event_position_below, at_is_get_or, leave_step_emits_leave, emitted_leave_is_placed, leave_positions_rise, event_positions_rise}
use Rattle.ir_cut.specs.Positions.{EachRun, machine_of, start_of}
use Rattle.ir_cut.proofs.CallerLemmas.{trail_same_in_runs}
use Rattle.ir_past.specs.Past.{event_at, entered}
use Rattle.ir_past.proofs.CallerLemmas.{event_thread_exists}
use Rattle.ir_events.specs.Events.{event_entry}
use Rattle.ir_opened.specs.Positions.{IsInside, LeavesFrom, EntryLeaves, LeavesAfter, IsLeaveOf, EntersAt, IsLeaveAs, NoLeaveAs, IsFirstLeaveAs}

-- a step of one run is one of each
pub emits_in_each_run : (f : FittedTrace) (h : HasRun f) (t k : ℕ) (a : Label) → Emits (machine_of f) (start_of f) h.run t k a
    → EachRun f (λ run. Emits (machine_of f) (start_of f) run t k a)
emits_in_each_run f h t k a emitted run of = (
  emitted.0,
  subst (λ (steps : List (thread.ThreadState × Label)). At steps k (emitted.0, a)) (trail_same_in_runs f h.run run h.whole of t) emitted.1,
)

-- its leaves are in the order of their positions
pub leaves_are_in_order : (f : FittedTrace) → HasRun f → (t : ℕ) → t < length f.guest.entries
    → IsNonDecreasingBy (λ (l : Leave). l.position) (placed_at (placed_of f) t).leaves
leaves_are_in_order f h t l i j d le lj = elim (cases_lt i j) [
  | inl less ↦ let up = leave_positions_rise f h t l i j d less lj in omega (arith, up)
  | inr past ↦
      let same : i ≡ j = omega (arith, le, past) in
      let equal = ap (λ k. (get_or (placed_at (placed_of f) t).leaves k d).position) same in omega (arith, equal)
]

-- where a search found that those at `from` or past it begin
pub partition_by_position : (xs : List Leave) (from i : ℕ)
    → IsPartitionPoint (λ (y : Leave). ltb y.position from ≡ true) (λ y. ltb y.position from ≡ false) xs i
    → IsPartitionPoint (λ (y : Leave). y.position < from) (λ y. from ≤ y.position) xs i
partition_by_position xs from i h = (λ k d low lt. ltb-true _ from (h.0 k d low lt), λ k d low lt. ltb-false _ from (h.1 k d low lt))

-- the leaves of thread t, and where those at `from` or past it begin
pub record AreLeavesFrom (f : FittedTrace) (t from : ℕ) (ls : List Leave) (start : ℕ) : Type 0 where
  pub leaves : ls ≡ (placed_at (placed_of f) t).leaves
  pub point : IsPartitionPoint (λ (l : Leave). l.position < from) (λ l. from ≤ l.position) ls start

leave_equal_by_fields : (k o : ℕ) (a : Access) (v : ℕ) (l : Leave) → IsLeaveAs l o a v → l.position ≡ k
    → l ≡ record { position = k; object = o; access = a; version = v }
leave_equal_by_fields k o a v l of at = λ i. record { position = at i; object = of.0 i; access = of.1 i; version = of.2 i }

-- a step that leaves is one of them
leaving_step_is_listed : (f : FittedTrace) (h : HasRun f) (t from : ℕ) (ls : List Leave) (start o : ℕ) (a : Access) (v k : ℕ) → AreLeavesFrom f t from ls start
    → LeavesFrom f t from o a v k
    → (i : ℕ) × (start ≤ i) × (i < length ls) × ((d : Leave) → get_or ls i d ≡ record { position = k; object = o; access = a; version = v })
leaving_step_is_listed f h t from ls start o a v k x at =
    let found = emitted_leave_is_placed f h t k o a v (at.1 h.run h.whole) in
    let same = x.leaves in
    let p : Leave = record { position = k; object = o; access = a; version = v } in
    let within : found.0 < length ls = subst (λ (z : List Leave). found.0 < length z) (sym same) found.1 in
    let is : (d : Leave) → get_or ls found.0 d ≡ p = λ d. subst (λ (z : List Leave). get_or z found.0 d ≡ p) (sym same) (found.2 d) in (
      found.0,
      elim (cases_lt found.0 start) [
        | inl low ↦ absurd (let below = x.point.0 found.0 p (omega arith) low in
            let here = ap (λ (l : Leave). l.position) (is p) in let past = at.0 in omega (arith, below, here, past))
        | inr from_there ↦ from_there
      ],
      within,
      is,
    )

-- the first that is of what was entered
pub first_listed_leaves : (f : FittedTrace) → HasRun f → (t from : ℕ) (ls : List Leave) (start o : ℕ) (a : Access) (v k : ℕ) → t < length f.guest.entries
    → AreLeavesFrom f t from ls start → IsFirstLeaveAs ls start o a v k
    → LeavesFrom f t from o a v k × ((n : ℕ) → LeavesFrom f t from o a v n → k ≤ n)
first_listed_leaves f h t from ls start o a v k l x first = (
  (
    (let past = x.point.1 first.number p first.from first.within in let here = first.there p in omega (arith, past, here)),
    emits_in_each_run f h t k (LeftAt o a v) emitted,
  ),
  λ n at.
      let other = leaving_step_is_listed f h t from ls start o a v n x at in
      let there : (get_or ls other.0 p).position ≡ n = ap (λ (z : Leave). z.position) (other.3 p) in
      elim (cases_lt other.0 first.number) [
        | inl before ↦ absurd (first.before other.0 p other.1 before
            (subst (λ (z : Leave). IsLeaveAs z o a v) (sym (other.3 p)) (refl, refl, refl)))
        | inr after ↦
            let up = subst (λ (z : List Leave). IsNonDecreasingBy (λ (y : Leave). y.position) z) (sym x.leaves) (leaves_are_in_order f h t l) in
            let low = up first.number other.0 p (omega (arith, after)) other.2 in
            let here = first.there p in omega (arith, low, here, there)
      ],
)
  where
    p : Leave
    p = record { position = k; object = o; access = a; version = v }

    is : get_or ls first.number p ≡ p
    is = leave_equal_by_fields k o a v (get_or ls first.number p) (first.is p) (first.there p)

    emitted : Emits (machine_of f) (start_of f) h.run t k (LeftAt o a v)
    emitted =
        let at : get_or (placed_at (placed_of f) t).leaves first.number p ≡ p = subst (λ (z : List Leave). get_or z first.number p ≡ p) x.leaves is in
        let within : first.number < length (placed_at (placed_of f) t).leaves = subst (λ (z : List Leave). first.number < length z) x.leaves first.within in
        subst (λ (z : Leave). Emits (machine_of f) (start_of f) h.run t z.position (LeftAt z.object z.access z.version)) at
        (leave_step_emits_leave f h t l first.number p within)

-- and where none is, no step leaves
pub none_listed_none_leaves : (f : FittedTrace) → HasRun f → (t from : ℕ) (ls : List Leave) (start o : ℕ) (a : Access) (v : ℕ) → AreLeavesFrom f t from ls start
    → NoLeaveAs ls start (length ls) o a v → (k : ℕ) → LeavesFrom f t from o a v k → ⊥
none_listed_none_leaves f h t from ls start o a v x none k at =
    let other = leaving_step_is_listed f h t from ls start o a v k x at in
    let p : Leave = record { position = k; object = o; access = a; version = v } in
    none other.0 p other.1 other.2 (subst (λ (z : Leave). IsLeaveAs z o a v) (sym (other.3 p)) (refl, refl, refl))

-- so of an event
pub entry_leaves_at_listed : (f : FittedTrace) → HasRun f → (t from : ℕ) (ls : List Leave) (start o : ℕ) (a : Access) (v k : ℕ) (e : Event)
    → t < length f.guest.entries → AreLeavesFrom f t from ls start → EntersAt e o a v → IsFirstLeaveAs ls start o a v k
    → EntryLeaves f t from (Some e) k × ((n : ℕ) → EntryLeaves f t from (Some e) n → k ≤ n)
entry_leaves_at_listed f h t from ls start o a v k (Answer kind value) l x enters first = absurd enters
entry_leaves_at_listed f h t from ls start o a v k (Read p w) l x enters first = first_listed_leaves f h t from ls start p Reading w k l x
    (subst (λ (z : ℕ × Access × ℕ). IsFirstLeaveAs ls start z.0 z.1 z.2 k) (λ i. (enters.0 i, enters.1 i, enters.2 i)) first)
entry_leaves_at_listed f h t from ls start o a v k (Write p w readers) l x enters first = first_listed_leaves f h t from ls start p Writing w k l x
    (subst (λ (z : ℕ × Access × ℕ). IsFirstLeaveAs ls start z.0 z.1 z.2 k) (λ i. (enters.0 i, enters.1 i, enters.2 i)) first)
entry_leaves_at_listed f h t from ls start o a v k (Try p) l x enters first = absurd enters

pub entry_never_leaves : (f : FittedTrace) → HasRun f → (t from : ℕ) (ls : List Leave) (start o : ℕ) (a : Access) (v : ℕ) (e : Event)
    → AreLeavesFrom f t from ls start → EntersAt e o a v → NoLeaveAs ls start (length ls) o a v → (k : ℕ) → EntryLeaves f t from (Some e) k → ⊥
entry_never_leaves f h t from ls start o a v (Answer kind value) x enters none k at = absurd enters
entry_never_leaves f h t from ls start o a v (Read p w) x enters none k at = none_listed_none_leaves f h t from ls start p Reading w x
    (subst (λ (z : ℕ × Access × ℕ). NoLeaveAs ls start (length ls) z.0 z.1 z.2) (λ i. (enters.0 i, enters.1 i, enters.2 i)) none) k at
entry_never_leaves f h t from ls start o a v (Write p w readers) x enters none k at = none_listed_none_leaves f h t from ls start p Writing w x
    (subst (λ (z : ℕ × Access × ℕ). NoLeaveAs ls start (length ls) z.0 z.1 z.2) (λ i. (enters.0 i, enters.1 i, enters.2 i)) none) k at
entry_never_leaves f h t from ls start o a v (Try p) x enters none k at = absurd enters

-- an event of a thread, what it enters, and the leaves from behind it on
pub record IsSoughtLeave (f : FittedTrace) (t i from : ℕ) (ls : List Leave) (start o : ℕ) (a : Access) (v : ℕ) : Type 0 where
  pub event : Event
  pub there : event_at f.recorded t i ≡ Some event
  pub behind : from ≡ event_entry f t i + 1
  pub enters : EntersAt event o a v
  pub leaves : AreLeavesFrom f t from ls start

pub found_leave_is_of_event : (f : FittedTrace) → HasRun f → (t i from : ℕ) (ls : List Leave) (start o : ℕ) (a : Access) (v : ℕ) (found : Option ℕ)
    → t < length f.guest.entries → IsSoughtLeave f t i from ls start o a v → IfSome found (IsFirstLeaveAs ls start o a v) → IfSome found (IsLeaveOf f t i)
found_leave_is_of_event f h t i from ls start o a v None l x first = tt
found_leave_is_of_event f h t i from ls start o a v (Some k) l x first =
    let y = entry_leaves_at_listed f h t from ls start o a v k x.event l x.leaves x.enters first in
    let moved : EntryLeaves f t from (Some x.event) k × ((n : ℕ) → EntryLeaves f t from (Some x.event) n → k ≤ n) = y in
    let at : EntryLeaves f t (event_entry f t i + 1) (Some x.event) k × ((n : ℕ) → EntryLeaves f t (event_entry f t i + 1) (Some x.event) n → k ≤ n) =
    subst (λ b. EntryLeaves f t b (Some x.event) k × ((n : ℕ) → EntryLeaves f t b (Some x.event) n → k ≤ n)) x.behind moved in
    record {
      leaves = subst (λ z. EntryLeaves f t (event_entry f t i + 1) z k) (sym x.there) at.0;
      first = λ n other. at.1 n (subst (λ z. EntryLeaves f t (event_entry f t i + 1) z n) x.there other);
    }

pub event_never_left : (f : FittedTrace) → HasRun f → (t i from : ℕ) (ls : List Leave) (start o : ℕ) (a : Access) (v : ℕ) (found : Option ℕ)
    → IsSoughtLeave f t i from ls start o a v → IfNone found (NoLeaveAs ls start (length ls) o a v) → IfNone found ((k : ℕ) → LeavesAfter f t i k → ⊥)
event_never_left f h t i from ls start o a v (Some k) x none = tt
event_never_left f h t i from ls start o a v None x none = λ k at.
    entry_never_leaves f h t from ls start o a v x.event x.leaves x.enters none k
    (subst (λ b. EntryLeaves f t b (Some x.event) k) (sym x.behind) (subst (λ z. EntryLeaves f t (event_entry f t i + 1) z k) x.there at))

-- an event that is no entry leaves nothing
pub no_entry_never_leaves : (f : FittedTrace) (t from k : ℕ) (e : Event) → entered e ≡ None → EntryLeaves f t from (Some e) k → ⊥
no_entry_never_leaves f t from k (Answer kind value) none at = at
no_entry_never_leaves f t from k (Read p w) none at = none-some p (sym none)
no_entry_never_leaves f t from k (Write p w readers) none at = none-some p (sym none)
no_entry_never_leaves f t from k (Try p) none at = at

-- ---- within a thread

-- the position of an event fits, and one more
pub entry_position_fits_64 : (f : FittedTrace) → IsFitted f → (t i : ℕ) → IsInside f t i → event_entry f t i + 1 < 2 ^ 64
entry_position_fits_64 f fitted t i recorded_is_inside =
    let within = event_position_below f fitted.run t recorded_is_inside.thread i recorded_is_inside.event in
    let same = fitted.run.whole.0.threads in
    let fits = (recorded_thread_fits f.recorded fitted.within t (let l = recorded_is_inside.thread in omega (arith, l, same))).steps_fit in
    omega (arith, within, fits)

leave_within_thread : (f : FittedTrace) → HasRun f → (t o : ℕ) (a : Access) (v k : ℕ) → t < length f.guest.entries
    → EachRun f (λ run. Emits (machine_of f) (start_of f) run t k (LeftAt o a v)) → k < (recorded_thread f.recorded t).steps
leave_within_thread f h t o a v k l at =
    let e = at h.run h.whole in
    let a = (at_is_get_or (trail (machine_of f) (start_of f) h.run t) k (e.0, LeftAt o a v) e.1).0 in
    let b = h.whole.1.steps t l in
    omega (arith, a, b)

entry_leave_in_thread : (f : FittedTrace) → HasRun f → (t from k : ℕ) (e : Option Event) → t < length f.guest.entries → EntryLeaves f t from e k
    → k < (recorded_thread f.recorded t).steps
entry_leave_in_thread f h t from k None l at = absurd at
entry_leave_in_thread f h t from k (Some (Answer kind value)) l at = absurd at
entry_leave_in_thread f h t from k (Some (Read o v)) l at = leave_within_thread f h t o Reading v k l at.1
entry_leave_in_thread f h t from k (Some (Write o v readers)) l at = leave_within_thread f h t o Writing v k l at.1
entry_leave_in_thread f h t from k (Some (Try o)) l at = absurd at

-- the leave of what an event entered is one of the thread's steps
pub leave_is_within_thread : (f : FittedTrace) → HasRun f → (t i k : ℕ) → t < length f.guest.entries → LeavesAfter f t i k
    → k < (recorded_thread f.recorded t).steps
leave_is_within_thread f h t i k l at = entry_leave_in_thread f h t (event_entry f t i + 1) k (event_at f.recorded t i) l at

entry_leave_after_start : (f : FittedTrace) (t from k : ℕ) (e : Option Event) → EntryLeaves f t from e k → from ≤ k
entry_leave_after_start f t from k None at = absurd at
entry_leave_after_start f t from k (Some (Answer kind value)) at = absurd at
entry_leave_after_start f t from k (Some (Read o v)) at = at.0
entry_leave_after_start f t from k (Some (Write o v readers)) at = at.0
entry_leave_after_start f t from k (Some (Try o)) at = absurd at

-- and is past the event
pub leave_is_past_event : (f : FittedTrace) (t i k : ℕ) → LeavesAfter f t i k → event_entry f t i + 1 ≤ k
leave_is_past_event f t i k at = entry_leave_after_start f t (event_entry f t i + 1) k (event_at f.recorded t i) at

-- its position fits, and one more
pub leave_position_fits_64 : (f : FittedTrace) → IsFitted f → (t i k : ℕ) → t < length f.guest.entries → LeavesAfter f t i k → k + 1 < 2 ^ 64
leave_position_fits_64 f fitted t i k l at =
    let within = leave_is_within_thread f fitted.run t i k l at in
    let same = fitted.run.whole.0.threads in
    let fits = (recorded_thread_fits f.recorded fitted.within t (omega (arith, l, same))).steps_fit in
    omega (arith, within, fits)

-- an event of the trace is one of the guest's thread
pub recorded_is_inside : (f : FittedTrace) → HasRun f → (t i : ℕ) (e : Event) → event_at f.recorded t i ≡ Some e → IsInside f t i
recorded_is_inside f h t i e there =
    let es : List Event = (recorded_thread f.recorded t).events in
    let l : t < length f.guest.entries = (let a = event_thread_exists f.recorded t i e there in
    let b = h.whole.0.threads in omega (arith, a, b)) in
    record {
      thread = l;
      event = let long = entries_count_events f h t l in let within = slice_get_within es i e there in omega (arith, within, long);
    }

-- and has as many events there
pub inside_below_events : (f : FittedTrace) → HasRun f → (t i : ℕ) → IsInside f t i → (r : Recorded) → r ≡ f.recorded → i < length (recorded_thread r t).events
inside_below_events f h t i recorded_is_inside r same =
    subst (λ (x : Recorded). i < length (recorded_thread x t).events) (sym same)
    (let long = entries_count_events f h t recorded_is_inside.thread in let within = recorded_is_inside.event in omega (arith, within, long))

pub leave_of_read_emits : (f : FittedTrace) (h : HasRun f) (u j k o v : ℕ) → event_at f.recorded u j ≡ Some (Read o v) → IsLeaveOf f u j k
    → Emits (machine_of f) (start_of f) h.run u k (LeftAt o Reading v)
leave_of_read_emits f h u j k o v there left = (subst (λ z. EntryLeaves f u (event_entry f u j + 1) z k) there left.leaves).1 h.run h.whole

pub leave_of_write_emits : (f : FittedTrace) (h : HasRun f) (u j k o v n : ℕ) → event_at f.recorded u j ≡ Some (Write o v n) → IsLeaveOf f u j k
    → Emits (machine_of f) (start_of f) h.run u k (LeftAt o Writing v)
leave_of_write_emits f h u j k o v n there left = (subst (λ z. EntryLeaves f u (event_entry f u j + 1) z k) there left.leaves).1 h.run h.whole

pub earlier_entry_step_le : (f : FittedTrace) → HasRun f → (t i k : ℕ) → IsInside f t i → k ≤ i → event_entry f t k ≤ event_entry f t i
earlier_entry_step_le f h t i k inside low = elim (cases_lt k i) [
  | inl less ↦ let up = event_positions_rise f h t inside.thread k i less inside.event in omega (arith, up)
  | inr past ↦ let same : k ≡ i = omega (arith, low, past) in let equal = ap (λ z. event_entry f t z) same in omega (arith, equal)
]
