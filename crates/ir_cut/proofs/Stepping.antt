-- What the code of the search reads and changes.
use Rattle.std.proofs.Common.{◌≡◌, ◌≢◌, ℕ, ◌+◌, ◌-◌, ◌<◌, ◌≤◌, true, false, List, length, set, Some, leb, leb-false, ltb, ltb-true}
use Rattle.std.proofs.Common.{ltb-false, sym, ap, ◌∙◌, subst, arith, inl, inr, get_or-set_same, get_or-set_other, length-set, le_refl}
use Rattle.std.specs.Prelude.{slice_get}
use Rattle.std.specs.List.{slice_index_or}
use Rattle.std.proofs.lemmas.Bool.{cases_eq, cases_lt}
use Rattle.std.proofs.lemmas.Grind.{get_or_default_zero}
use Rattle.std.proofs.lemmas.Option.{slice_get_within, slice_get-get_or, get_or_from_slice_get}
use Rattle.ir_log.specs.Logging.{label_of}
use Rattle.ir_log.specs.declared.event.Event.{Event}
use Rattle.ir_trace.specs.Recorded.{Recorded, RecordedThread, recorded_thread}
use Rattle.ir_trace.specs.Bounds.{IsRecorded}
use Rattle.ir_trace.specs.Absent.{absent}
use Rattle.std.specs.List.Sorted.{IsNonDecreasingBy, IsPartitionPoint}
use Rattle.std.proofs.lemmas.List.{get_or_default}
use Rattle.ir_runs.specs.Verdicts.{sum_below}
use Rattle.ir_fit.specs.Fit.{FittedTrace, HasRun}
use Rattle.ir_fit.specs.Placed.{placed_at, placed_of}
use Rattle.ir_fit.specs.Within.{IsFitted}
use Rattle.ir_fit.specs.declared.leave.Leave.{Leave}
use Rattle.ir_runs.proofs.CallerLemmas.{sum_below_less}
use Rattle.ir_cut.specs.Positions.{EachRun, cut_of}
use Rattle.ir_cut.specs.Searching.{RaisedFor, LoweredFor, NeededBy, Needing, Rising, Falling, NoneAbove, HasBelow, HasAbove, AreLeaves, events_left, leaves_left}
use Rattle.ir_cut.proofs.Listing.{IsListed, run_of_trace_is_listed}
use Rattle.ir_cut.proofs.Searched.{rising_step, falling_step, slice_get_unique}

-- ---- sums

-- one of the numbers is less, and the others are the same
sum_below_one_less : (n : ℕ) (f g : ℕ → ℕ) (u : ℕ) → u < n → f u < g u → ((t : ℕ) → t ≢ u → f t ≡ g t) → sum_below n f < sum_below n g
sum_below_one_less n f g u l less rest = sum_below_less n u f g l less (λ t. elim (cases_eq t u) [
  | inl same ↦ subst (λ z. f z ≤ g z) (sym same) (omega (arith, less))
  | inr ne ↦ let e = rest t ne in omega (arith, e)
])

-- ---- a number of each thread that is changed for one

pub cut_of_is_indexed : (xs : List ℕ) (t v : ℕ) → t < length xs → v ≡ slice_index_or xs t v → cut_of xs t ≡ v
cut_of_is_indexed xs t v l e = sym (e ∙ get_or_default_zero xs t v l)

pub cut_of_set_is_new : (xs : List ℕ) (t v : ℕ) → t < length xs → cut_of (set xs t v) t ≡ v
cut_of_set_is_new xs t v l = get_or-set_same xs t v 0 l

pub cut_of_set_elsewhere : (xs : List ℕ) (t v u : ℕ) → u ≢ t → cut_of (set xs t v) u ≡ cut_of xs u
cut_of_set_elsewhere xs t v u ne = get_or-set_other xs t u v 0 ne

-- ---- an event is taken

pub next_event_has_position : (f : FittedTrace) (qs next : List ℕ) (t i : ℕ) → HasBelow f qs next t → cut_of next t ≡ i
    → i < length (placed_at (placed_of f) t).entries
next_event_has_position f qs next t i below same = subst (λ z. z < length (placed_at (placed_of f) t).entries) same
    (slice_get_within (placed_at (placed_of f) t).entries (cut_of next t) below.0 below.1)

pub rising_after_event : (f : FittedTrace) → IsFitted f → (qs qs' next : List ℕ) (t i : ℕ) (es : List Event) (d : Event)
    → length next ≡ length f.guest.entries → t < length f.guest.entries → HasBelow f qs next t → i ≡ slice_index_or next t i
    → es ≡ (recorded_thread f.recorded t).events → length es ≡ length (placed_at (placed_of f) t).entries
    → EachRun f (λ run. RaisedFor f run (NeededBy (label_of (slice_index_or es i d))) qs qs')
    → (ps : List ℕ) (u k : ℕ) → EachRun f (Rising f ps u k qs next) → EachRun f (Rising f ps u k qs' (set next t (i + 1)))
rising_after_event f fit qs qs' next t i es d size there below read log sizes raised ps u k rising run is =
    let inside : t < length next = omega (arith, there, size) in
    let at : cut_of next t ≡ i = cut_of_is_indexed next t i inside read in
    let l : i < length es = (let a = next_event_has_position f qs next t i below at in omega (arith, a, sizes)) in
    let event : slice_get (recorded_thread f.recorded t).events (cut_of next t) ≡ Some (slice_index_or es i d) =
    ap (slice_get (recorded_thread f.recorded t).events) at ∙ ap (λ z. slice_get z i) (sym log) ∙ slice_get-get_or es i d l in
    rising_step f run (run_of_trace_is_listed f fit.run run is) ps qs qs' next (set next t (i + 1)) u k t (slice_index_or es i d) (rising run is) there
    below event (raised run is) (cut_of_set_is_new next t (i + 1) inside ∙ (let e : i + 1 ≡ cut_of next t + 1 = omega (arith, at) in e))
    (cut_of_set_elsewhere next t (i + 1))

pub event_leaves_fewer : (f : FittedTrace) (qs next : List ℕ) (t i : ℕ) → length next ≡ length f.guest.entries → t < length f.guest.entries
    → HasBelow f qs next t → i ≡ slice_index_or next t i → events_left f (set next t (i + 1)) < events_left f next
event_leaves_fewer f qs next t i size there below read =
    let inside : t < length next = omega (arith, there, size) in
    let at : cut_of next t ≡ i = cut_of_is_indexed next t i inside read in
    let l : i < length (placed_at (placed_of f) t).entries = next_event_has_position f qs next t i below at in
    sum_below_one_less (length f.guest.entries) _ _ t there (let own = cut_of_set_is_new next t (i + 1) inside in omega (arith, own, at, l))
    (λ u ne. ap (λ z. length (placed_at (placed_of f) u).entries - z) (cut_of_set_elsewhere next t (i + 1) u ne))

-- ---- a leave is taken

-- the last of the leaves counted by next
leave_count_is_suc : (f : FittedTrace) (qs next : List ℕ) (t i : ℕ) → AreLeaves f next → t < length f.guest.entries → HasAbove f qs next t
    → i ≡ slice_index_or next t i → (cut_of next t ≡ i - 1 + 1) × (t < length next)
leave_count_is_suc f qs next t i are there above read =
    let inside : t < length next = (let e = are.each in omega (arith, there, e)) in
    let at : cut_of next t ≡ i = cut_of_is_indexed next t i inside read in
    let some = above.2 in
    ((let e : cut_of next t ≡ i - 1 + 1 = omega (arith, at, some) in e), inside)

pub falling_after_leave : (f : FittedTrace) → IsFitted f → (qs qs' next : List ℕ) (t i : ℕ) (ls : List Leave) (d : Leave) → AreLeaves f next
    → t < length f.guest.entries → HasAbove f qs next t → i ≡ slice_index_or next t i
    → ls ≡ (placed_at (placed_of f) t).leaves → EachRun f (λ run. LoweredFor f run (Needing (slice_index_or ls (i - 1) d)) qs qs')
    → (ps : List ℕ) (u k : ℕ) → EachRun f (Falling f ps u k qs next) → EachRun f (Falling f ps u k qs' (set next t (i - 1)))
falling_after_leave f fit qs qs' next t i ls d are there above read list lowered ps u k falling run is =
    let last = leave_count_is_suc f qs next t i are there above read in
    let within : i - 1 < length ls = (let a = are.some t there in let b : length ls ≡ length (placed_at (placed_of f) t).leaves =
    ap length list in omega (arith, last.0, a, b)) in
    let x : Leave = slice_index_or ls (i - 1) d in
    let is_leave : slice_get (placed_at (placed_of f) t).leaves (i - 1) ≡ Some x = ap (λ z. slice_get z (i - 1)) (sym list)
    ∙ slice_get-get_or ls (i - 1) d within in
    let index : above.0 ≡ i - 1 = (let a = above.2 in let b = last.0 in omega (arith, a, b)) in
    let same : above.1 ≡ x = slice_get_unique (placed_at (placed_of f) t).leaves above.0 (i - 1) above.1 x index above.3 is_leave in
    falling_step f run (run_of_trace_is_listed f fit.run run is) ps qs qs' next (set next t (i - 1)) u k t x (i - 1) (falling run is) there last.0 is_leave
    (subst (λ z. cut_of qs t ≤ z.position) same above.4) (lowered run is) (cut_of_set_is_new next t (i - 1) last.1)
    (cut_of_set_elsewhere next t (i - 1))

pub leave_leaves_fewer : (f : FittedTrace) (qs next : List ℕ) (t i : ℕ) → AreLeaves f next → t < length f.guest.entries → HasAbove f qs next t
    → i ≡ slice_index_or next t i → leaves_left (set next t (i - 1)) < leaves_left next
leave_leaves_fewer f qs next t i are there above read =
    let last = leave_count_is_suc f qs next t i are there above read in
    subst (λ n. sum_below n (cut_of (set next t (i - 1))) < leaves_left next) (sym (length-set next t (i - 1)))
    (sum_below_one_less (length next) (cut_of (set next t (i - 1))) (cut_of next) t last.1
    (let own = cut_of_set_is_new next t (i - 1) last.1 in let at = last.0 in omega (arith, own, at))
    (λ u ne. cut_of_set_elsewhere next t (i - 1) u ne))

pub leave_keeps_counts : (f : FittedTrace) (qs next : List ℕ) (t i : ℕ) → AreLeaves f next → t < length f.guest.entries → HasAbove f qs next t
    → i ≡ slice_index_or next t i → AreLeaves f (set next t (i - 1))
leave_keeps_counts f qs next t i are there above read =
    let last = leave_count_is_suc f qs next t i are there above read in
    record {
      each = length-set next t (i - 1) ∙ are.each;
      some = λ u l. elim (cases_eq u t) [
        | inl same ↦ subst (λ z. cut_of (set next t (i - 1)) z ≤ length (placed_at (placed_of f) z).leaves) (sym same)
            (let own = cut_of_set_is_new next t (i - 1) last.1 in let a = are.some t there in let at = last.0 in omega (arith, own, a, at))
        | inr ne ↦ let a = are.some u l in let b = cut_of_set_elsewhere next t (i - 1) u ne in omega (arith, a, b)
      ];
    }

-- all leaves counted by next are inside if the last is
pub inside_none_above : (f : FittedTrace) → IsFitted f → (qs next : List ℕ) (t last : ℕ) (x : Leave) → t < length f.guest.entries
    → cut_of next t ≡ last + 1 → slice_get (placed_at (placed_of f) t).leaves last ≡ Some x → x.position < cut_of qs t → NoneAbove f qs next t
inside_none_above f fit qs next t last x there at is_leave below e l less says =
    let list : IsListed f fit.run.run = run_of_trace_is_listed f fit.run fit.run.run fit.run.whole in
    elim (cases_lt e last) [
      | inl before ↦ let up = list.fall t e last l x there before says is_leave in omega (arith, up, below)
      | inr past ↦ subst (λ z. z.position < cut_of qs t)
          (sym (slice_get_unique (placed_at (placed_of f) t).leaves e last l x (let d : e ≡ last = omega (arith, past, less, at) in d) says
          is_leave)) below
    ]

-- ---- what the code reads of the trace

pub events_count_positions : (f : FittedTrace) → IsFitted f → (t : ℕ) (es : List Event) → t < length f.guest.entries
    → es ≡ (recorded_thread f.recorded t).events → length es ≡ length (placed_at (placed_of f) t).entries
events_count_positions f fit t es there log = ap length log ∙ sym ((run_of_trace_is_listed f fit.run fit.run.run fit.run.whole).sizes t there)

-- there are as many threads in the trace
pub thread_below_recorded : (f : FittedTrace) → HasRun f → (r : Recorded) (ts : List RecordedThread) (t : ℕ) → r ≡ f.recorded → ts ≡ r.threads
    → t < length f.guest.entries → t < length ts
thread_below_recorded f h r ts t same is l = let a = h.whole.0.threads in let b : length ts ≡ length f.recorded.threads =
    ap length (is ∙ ap (λ z. z.threads) same) in omega (arith, l, a, b)

pub looked_up_events_equal : (f : FittedTrace) → HasRun f → (r : Recorded) (ts : List RecordedThread) (t : ℕ) (x : RecordedThread) (es : List Event)
    → r ≡ f.recorded → ts ≡ r.threads → t < length f.guest.entries → x ≡ slice_index_or ts t x → es ≡ x.events
    → es ≡ (recorded_thread f.recorded t).events
looked_up_events_equal f h r ts t x es same is l read events =
    events ∙ ap (λ z. z.events) (read ∙ get_or_default ts t x absent (thread_below_recorded f h r ts t same is l)
    ∙ ap (λ z. slice_index_or z t absent) (is ∙ ap (λ z. z.threads) same))

-- ---- positions rise

pub event_positions_sorted : (f : FittedTrace) → IsFitted f → (t : ℕ) (xs : List ℕ) → t < length f.guest.entries → xs ≡ (placed_at (placed_of f) t).entries
    → IsNonDecreasingBy (λ (i : ℕ). i) xs
event_positions_sorted f fit t xs there is i j d le l = subst (λ z. (j < length z) → slice_index_or z i d ≤ slice_index_or z j d) (sym is)
    (λ inside. elim (cases_lt i j) [
      | inl less ↦
          let low : i < length (placed_at (placed_of f) t).entries = omega (arith, less, inside) in
          let up = list.rise t i j (slice_index_or (placed_at (placed_of f) t).entries i d) (slice_index_or (placed_at (placed_of f) t).entries j d) there
          less (slice_get-get_or (placed_at (placed_of f) t).entries i d low) (slice_get-get_or (placed_at (placed_of f) t).entries j d inside) in
          omega (arith, up)
      | inr past ↦ subst (λ k. slice_index_or (placed_at (placed_of f) t).entries i d ≤ slice_index_or (placed_at (placed_of f) t).entries k d)
          (let e : i ≡ j = omega (arith, le, past) in e) (le_refl _)
    ]) l
  where
    list : IsListed f fit.run.run
    list = run_of_trace_is_listed f fit.run fit.run.run fit.run.whole

pub leave_positions_sorted : (f : FittedTrace) → IsFitted f → (t : ℕ) (xs : List Leave) → t < length f.guest.entries
    → xs ≡ (placed_at (placed_of f) t).leaves → IsNonDecreasingBy (λ (l : Leave). l.position) xs
leave_positions_sorted f fit t xs there is i j d le l = subst (λ z. (j < length z) → (slice_index_or z i d).position ≤ (slice_index_or z j d).position)
    (sym is) (λ inside. elim (cases_lt i j) [
      | inl less ↦
          let low : i < length (placed_at (placed_of f) t).leaves = omega (arith, less, inside) in
          let up = list.fall t i j (slice_index_or (placed_at (placed_of f) t).leaves i d) (slice_index_or (placed_at (placed_of f) t).leaves j d) there
          less (slice_get-get_or (placed_at (placed_of f) t).leaves i d low) (slice_get-get_or (placed_at (placed_of f) t).leaves j d inside) in
          omega (arith, up)
      | inr past ↦ subst (λ k. (slice_index_or (placed_at (placed_of f) t).leaves i d).position ≤
          (slice_index_or (placed_at (placed_of f) t).leaves k d).position) (let e : i ≡ j = omega (arith, le, past) in e) (le_refl _)
    ]) l
  where
    list : IsListed f fit.run.run
    list = run_of_trace_is_listed f fit.run fit.run.run fit.run.whole

-- ---- where a search ends

pub before_partition_below : (xs : List ℕ) (n position : ℕ) → IsPartitionPoint (λ (i : ℕ). ltb i position ≡ true) (λ i. ltb i position ≡ false) xs n
    → (e i : ℕ) → e < n → slice_get xs e ≡ Some i → i < position
before_partition_below xs n position parted e i l is = ltb-true i position
    (subst (λ z. ltb z position ≡ true) (get_or_from_slice_get xs e i i is) (parted.0 e i (omega arith) l))

pub after_partition_not_below : (xs : List Leave) (n position : ℕ)
    → IsPartitionPoint (λ (l : Leave). ltb l.position position ≡ true) (λ l. ltb l.position position ≡ false) xs n → (e : ℕ) (l : Leave)
    → n ≤ e → slice_get xs e ≡ Some l → position ≤ l.position
after_partition_not_below xs n position parted e l past is = ltb-false l.position position
    (subst (λ z. ltb z.position position ≡ false) (get_or_from_slice_get xs e l l is) (parted.1 e l past (slice_get_within xs e l is)))

-- no leave counted by next is outside if the last isn't
pub indexed_none_above : (f : FittedTrace) → IsFitted f → (qs next : List ℕ) (t last : ℕ) (ls : List Leave) (d : Leave) → AreLeaves f next
    → t < length f.guest.entries → (1 ≤ slice_index_or next t 0) × (last ≡ slice_index_or next t 0 - 1) → ls ≡ (placed_at (placed_of f) t).leaves
    → leb (slice_index_or qs t 0) (slice_index_or ls last d).position ≡ false → NoneAbove f qs next t
indexed_none_above f fit qs next t last ls d are there is list out =
    let at : cut_of next t ≡ last + 1 = (let some = is.0 in let less = is.1 in omega (arith, some, less)) in
    let within : last < length ls = (let a = are.some t there in let b : length ls ≡ length (placed_at (placed_of f) t).leaves =
    ap length list in omega (arith, at, a, b)) in
    inside_none_above f fit qs next t last (slice_index_or ls last d) there at
    (ap (λ z. slice_get z last) (sym list) ∙ slice_get-get_or ls last d within)
    (leb-false (slice_index_or qs t 0) (slice_index_or ls last d).position out)

pub looked_up_steps_equal : (f : FittedTrace) → HasRun f → (r : Recorded) (ts : List RecordedThread) (t : ℕ) (x : RecordedThread) (n : ℕ)
    → r ≡ f.recorded → ts ≡ r.threads → t < length f.guest.entries → x ≡ slice_index_or ts t x → n ≡ x.steps
    → n ≡ (recorded_thread f.recorded t).steps
looked_up_steps_equal f h r ts t x n same is l read steps =
    steps ∙ ap (λ z. z.steps) (read ∙ get_or_default ts t x absent (thread_below_recorded f h r ts t same is l)
    ∙ ap (λ z. slice_index_or z t absent) (is ∙ ap (λ z. z.threads) same))
