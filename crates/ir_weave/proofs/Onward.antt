-- A state that advances along the trace is a state at a later cut.
use Rattle.std.proofs.Common.{◌≡◌, ◌≢◌, ℕ, suc, zero, ◌+◌, ◌-◌, ◌<◌, ◌≤◌, List, [], ◌∷◌, ◌++◌, length, replicate, Result, Ok, Err, OnOk}
use Rattle.std.proofs.Common.{OnErr, refl, sym, ap, ◌∙◌, subst, arith, inl, inr, append_assoc}
use Rattle.std.proofs.lemmas.Bool.{cases_eq, cases_lt}
use Rattle.ir_image.specs.Guest.{object_count}
use Rattle.ir_runs.specs.Machine.{Machine, Label, Quiet, Answer, EnteredAt, FailedTry, LeftAt, logged}
use Rattle.ir_thread.specs.State as thread
use Rattle.ir_flat.specs.Alone.{WentAlone}
use Rattle.ir_flat.specs.Flat.{Flat, tables, machine, start_flat}
use Rattle.ir_runs.specs.Run.{State, Step, Can, after, label, IsRun, end, trail, events, log, count, part}
use Rattle.ir_runs.proofs.CallerLemmas.{append_of_runs_is_run, end_append, log_append, trail_cons_own, trail_cons_other, events_then_left_log, IsPrefix, beginning_is_prefix, fits_length_bound}
use Rattle.ir_flat.proofs.CallerLemmas.{tallies_along_run, length_of_start_threads, length_of_start_cells, start_has_no_steps, guest_start_is_idle}
use Rattle.ir_trace.specs.Recorded.{trace_of}
use Rattle.ir_fit.specs.Fit.{FittedTrace, IsRunOf}
use Rattle.ir_fit.specs.Passed.{IsAlong}
use Rattle.ir_fit.proofs.CallerLemmas.{idle_has_empty_trail}
use Rattle.ir_runs.specs.Verdicts.{Follows, closing, left_log, unlogged}
use Rattle.ir_cut.specs.Positions.{machine_of, start_of, cut_of}
use Rattle.ir_weave.specs.Standing.{StandsAtPlace, IsStateAt, positions}
use Rattle.ir_weave.specs.Stepping.{LogsNext, IsTarget, IsUnder, HasGone}
use Rattle.ir_weave.proofs.Behind.{guest_machine_is_lawful, guest_start_invariant, guest_part_is_run, is_at_if_tables_are_end}
use Rattle.ir_weave.proofs.Behind.{steps_at_end_are_count, log_after_cut, log_splits_at_cut, log_ahead_after_cut, property_to_part_end}

-- ---- the end of a prefix

-- the tables at the end of a prefix of the run, whose threads are not past their last steps
at_cut_by_prefix_end : (f : FittedTrace) (s : Flat) (run prefix : List Step) → IsRunOf f.guest f.recorded run → IsRun (machine_of f) (start_of f) prefix
    → (left : ℕ → List Label) → ((t : ℕ) → log (machine_of f) (start_of f) prefix t ++ left t ≡ log (machine_of f) (start_of f) run t)
    → tables s ≡ end (machine_of f) (start_of f) prefix → ((t : ℕ) → positions s t ≤ count (machine_of f) (start_of f) run t)
    → StandsAtPlace f (positions s) s run
at_cut_by_prefix_end f s run prefix is ok left logs ends within =
    let counted : (t : ℕ) → count (machine_of f) (start_of f) prefix t ≡ positions s t =
    λ t. sym (ap (λ z. (z.now t).steps) ends ∙ steps_at_end_are_count f prefix ok t) in
    let at : IsPrefix (machine_of f) (start_of f) run prefix (positions s) =
    beginning_is_prefix (machine_of f) (guest_machine_is_lawful f) (start_of f) (guest_start_invariant f) run prefix is.1.runs ok left logs
    (λ t. subst (λ n. n ≤ count (machine_of f) (start_of f) run t) (sym (counted t)) (within t)) (positions s) counted in
    is_at_if_tables_are_end f (positions s) s run is at.cut at.consistent (ends ∙ at.same_end)

-- a run that follows the trace
abbrev IsFollowing : FittedTrace → List Step → Type 0
IsFollowing f prefix = Follows (closing (machine_of f) (trace_of f.recorded)) (machine_of f) (start_of f) (trace_of f.recorded) prefix

-- what it logs of a thread is the first of what each complete run with the trace logs
following_log_is_prefix : (f : FittedTrace) (run prefix : List Step) → IsRunOf f.guest f.recorded run → IsFollowing f prefix → (t : ℕ)
    → (left : List Label) × (log (machine_of f) (start_of f) prefix t ++ left ≡ log (machine_of f) (start_of f) run t)
following_log_is_prefix f run prefix is follows t =
    let m = machine_of f in let s = start_of f in let tr = trace_of f.recorded in
    elim (cases_lt t (length f.guest.entries)) [
      | inl l ↦ (
        left_log (trail m s prefix t) (tr.logs t),
        events_then_left_log (closing m tr t) (tr.steps t) (tr.logs t) (trail m s prefix t) (follows.1 t) ∙ sym (is.1.logs t l),
      )
      | inr past ↦ (
        log m s run t,
        ap (λ z. events z ++ log m s run t) (idle_has_empty_trail m s (length f.guest.entries)
            (guest_start_is_idle f.guest f.recorded.budget f.recorded.profile) prefix follows.0 t past),
      )
    ]

-- and no thread is past its last step
following_count_within : (f : FittedTrace) (run prefix : List Step) → IsRunOf f.guest f.recorded run → IsFollowing f prefix → (t : ℕ)
    → count (machine_of f) (start_of f) prefix t ≤ count (machine_of f) (start_of f) run t
following_count_within f run prefix is follows t =
    let m = machine_of f in let s = start_of f in let tr = trace_of f.recorded in
    elim (cases_lt t (length f.guest.entries)) [
      | inl l ↦ let few = fits_length_bound (closing m tr t) (tr.steps t) (tr.logs t) (trail m s prefix t) (follows.1 t) in
          let all = is.1.steps t l in omega (arith, few, all)
      | inr past ↦ let none = ap length (idle_has_empty_trail m s (length f.guest.entries)
          (guest_start_is_idle f.guest f.recorded.budget f.recorded.profile) prefix follows.0 t past) in omega (arith, none)
    ]

-- the guest after such a run is the guest at a cut of each complete run with the trace
pub along_trace_stands_at_own : (f : FittedTrace) (s : Flat) → IsAlong f.guest f.recorded s → IsStateAt f (positions s) s
along_trace_stands_at_own f s along = record {
  code = along.code;
  threads = along.threads;
  objects = along.objects;
  steps = λ t. refl;
  each = λ run is. at_cut_by_prefix_end f s run along.run is along.follows.0 (λ t. (following_log_is_prefix f run along.run is along.follows t).0)
      (λ t. (following_log_is_prefix f run along.run is along.follows t).1) along.ends
      (λ t. let few = following_count_within f run along.run is along.follows t in
      let counted = ap (λ z. (z.now t).steps) along.ends ∙ steps_at_end_are_count f along.run along.follows.0 t in omega (arith, few, counted));
}

-- ---- the start

start_positions_zero : (f : FittedTrace) (t : ℕ) → positions (start_flat f.guest f.recorded.budget f.recorded.profile) t ≡ 0
start_positions_zero f t = start_has_no_steps f.guest f.recorded.budget f.recorded.profile 0 (length f.guest.entries) t

pub start_is_state_at_zero : (f : FittedTrace) (s : Flat) → s ≡ start_flat f.guest f.recorded.budget f.recorded.profile → IsStateAt f (λ t. 0) s
start_is_state_at_zero f s same = subst (IsStateAt f (λ t. 0)) (sym same) (record {
  code = refl;
  threads = length_of_start_threads f.guest f.recorded.budget f.recorded.profile 0 (length f.guest.entries);
  objects = length_of_start_cells f.guest 0 (object_count f.guest);
  steps = start_positions_zero f;
  each = λ run is.
      subst (λ p. StandsAtPlace f p (start_flat f.guest f.recorded.budget f.recorded.profile) run) (λ i t. start_positions_zero f t i)
      (at_cut_by_prefix_end f (start_flat f.guest f.recorded.budget f.recorded.profile) run [] is tt (log (machine_of f) (start_of f) run) (λ t. refl)
      refl (λ t. let none = start_positions_zero f t in omega (arith, none)));
})

-- ---- further steps

-- steps from a state that lead to another, and log the first of what the run has left
pub record Leads (more : List Step) (new : State thread.ThreadState) (left : ℕ → List Label) (m : Machine thread.ThreadState) (s : State thread.ThreadState) :
    Type 0 where
  pub runs : IsRun m s more
  pub ends : new ≡ end m s more
  pub logs : (t : ℕ) → (rest : List Label) × (log m s more t ++ rest ≡ left t)

pub state_at_after_leading : (f : FittedTrace) (s new : Flat) (run more : List Step) → IsRunOf f.guest f.recorded run → s.code ≡ f.guest.code
    → StandsAtPlace f (positions s) s run → ((t : ℕ) → positions new t ≤ count (machine_of f) (start_of f) run t)
    → Leads more (tables new) (log_after_cut f run (positions s)) (machine s) (tables s) → StandsAtPlace f (positions new) new run
state_at_after_leading f s new run more is code at within leads =
    let k : Leads more (tables new) (log_after_cut f run (positions s)) (machine_of f) (end (machine_of f) (start_of f) (part run (positions s))) =
    property_to_part_end f (positions s) s run is code at (Leads more (tables new) (log_after_cut f run (positions s))) leads in
    at_cut_by_prefix_end f new run (part run (positions s) ++ more) is
    (append_of_runs_is_run (machine_of f) (start_of f) (part run (positions s)) more (guest_part_is_run f run is (positions s) at.consistent).ok k.runs)
    (λ t. (k.logs t).0)
    (λ t. ap (λ z. z ++ (k.logs t).0) (log_append (machine_of f) (start_of f) (part run (positions s)) more t)
    ∙ append_assoc (log (machine_of f) (start_of f) (part run (positions s)) t)
    (log (machine_of f) (end (machine_of f) (start_of f) (part run (positions s))) more t) (k.logs t).0
    ∙ ap (λ z. log (machine_of f) (start_of f) (part run (positions s)) t ++ z) (k.logs t).1
    ∙ log_splits_at_cut f run is (positions s) at.consistent t)
    (k.ends ∙ sym (end_append (machine_of f) (start_of f) (part run (positions s)) more)) within

-- a state that isn't past the target, by such steps
under_target_after_leading : (f : FittedTrace) (target : List ℕ) (s new : Flat) (more : List Step) → IsTarget f target → IsUnder f target s
    → new.code ≡ s.code → length new.threads ≡ length s.threads → length new.objects ≡ length s.objects
    → ((t : ℕ) → positions new t ≤ cut_of target t)
    → ((run : List Step) → IsRunOf f.guest f.recorded run → Leads more (tables new) (log_after_cut f run (positions s)) (machine s) (tables s))
    → IsUnder f target new
under_target_after_leading f target s new more aim under code threads objects below leads = record {
  state = record {
    code = code ∙ under.state.code;
    threads = threads ∙ under.state.threads;
    objects = objects ∙ under.state.objects;
    steps = λ t. refl;
    each = λ run is. state_at_after_leading f s new run more is under.state.code (under.state.each run is)
        (λ t. let a = below t in let b = (aim.consistent run is).0 t in omega (arith, a, b)) (leads run is);
  };
  below = below;
}

-- ---- one step

logged_nil-append : (k : Label) (es : List Label) → logged k [] ++ es ≡ logged k es
logged_nil-append Quiet es = refl
logged_nil-append (Answer kind value) es = refl
logged_nil-append (EnteredAt o a v l) es = refl
logged_nil-append (FailedTry o) es = refl
logged_nil-append (LeftAt o a v) es = refl

-- what a step of thread t logs
pub step_log_is_prefix : {T : Type 0} (m : Machine T) (s : State T) (t v : ℕ) (left : ℕ → List Label)
    → logged (label m s (t, v)) (unlogged (label m s (t, v)) (left t)) ≡ left t → (u : ℕ) → (rest : List Label)
    × (log m s ((t, v) ∷ []) u ++ rest ≡ left u)
step_log_is_prefix m s t v left own u = elim (cases_eq u t) [
  | inl same ↦ subst (λ w. (rest : List Label) × (log m s ((t, v) ∷ []) w ++ rest ≡ left w)) (sym same) (
    unlogged (label m s (t, v)) (left t),
    ap (λ z. events z ++ unlogged (label m s (t, v)) (left t)) (trail_cons_own m s (t, v) [])
        ∙ logged_nil-append (label m s (t, v)) (unlogged (label m s (t, v)) (left t)) ∙ own,
  )
  | inr other ↦ (left u, ap (λ z. events z ++ left u) (trail_cons_other m s (t, v) [] u other))
]

-- how far each thread is after it
pub position_after_own_step : (s new : Flat) (t v : ℕ) → Can (machine s) (tables s) (t, v) → tables new ≡ after (machine s) (tables s) (t, v)
    → positions new t ≡ positions s t + 1
position_after_own_step s new t v can taken = ap (λ z. (z.now t).steps) taken ∙ (tallies_along_run s.code (tables s) ((t, v) ∷ []) (can, tt) t).steps
    ∙ ap (λ z. positions s t + length z) (trail_cons_own (machine s) (tables s) (t, v) [])

pub position_after_other : (s new : Flat) (t v : ℕ) → Can (machine s) (tables s) (t, v) → tables new ≡ after (machine s) (tables s) (t, v) → (u : ℕ)
    → u ≢ t → positions new u ≡ positions s u
position_after_other s new t v can taken u ne = ap (λ z. (z.now u).steps) taken ∙ (tallies_along_run s.code (tables s) ((t, v) ∷ []) (can, tt) u).steps
    ∙ ap (λ z. positions s u + length z) (trail_cons_other (machine s) (tables s) (t, v) [] u ne)
    ∙ (let e : positions s u + 0 ≡ positions s u = omega arith in e)

-- positions of which one is changed stay below the target
positions_stay_below : (target : List ℕ) (s new : Flat) (t : ℕ) → ((u : ℕ) → positions s u ≤ cut_of target u) → positions new t ≤ cut_of target t
    → ((u : ℕ) → u ≢ t → positions new u ≡ positions s u) → (u : ℕ) → positions new u ≤ cut_of target u
positions_stay_below target s new t below own others u = elim (cases_eq u t) [
  | inl same ↦ subst (λ w. positions new w ≤ cut_of target w) (sym same) own
  | inr ne ↦ let a = others u ne in let b = below u in omega (arith, a, b)
]

-- after a step of thread t
pub record Stepped (f : FittedTrace) (target : List ℕ) (s new : Flat) (t : ℕ) : Type 0 where
  pub under : IsUnder f target new
  pub gone : HasGone s new t 1

stepped_by_logged_step : (f : FittedTrace) (target : List ℕ) (s new : Flat) (t v : ℕ) → IsTarget f target → IsUnder f target s → t < length target
    → positions s t < cut_of target t → LogsNext f.recorded s t v
    → tables new ≡ after (machine s) (tables s) (t, v) → new.code ≡ s.code → length new.threads ≡ length s.threads
    → length new.objects ≡ length s.objects → Stepped f target s new t
stepped_by_logged_step f target s new t v aim under there_is before next taken code threads objects =
    let own : positions new t ≡ positions s t + 1 = position_after_own_step s new t v next.0 taken in
    let others : (u : ℕ) → u ≢ t → positions new u ≡ positions s u = position_after_other s new t v next.0 taken in
    record {
      under = under_target_after_leading f target s new ((t, v) ∷ []) aim under code threads objects
          (positions_stay_below target s new t under.below (omega (arith, own, before)) others)
          (λ run is. record {
            runs = (next.0, tt);
            ends = taken;
            logs = step_log_is_prefix (machine s) (tables s) t v (log_after_cut f run (positions s))
                (subst (λ es. logged (label (machine s) (tables s) (t, v)) (unlogged (label (machine s) (tables s) (t, v)) es) ≡ es)
                (log_ahead_after_cut f (positions s) s run is (under.state.each run is) t (subst (λ n. t < n) aim.size there_is)) next.1);
          });
      gone = record { own = own; others = others };
    }

-- the same by what the step answers
pub stepped_by_result : {X E : Type 0} (result : Result X E) (f : FittedTrace) (target : List ℕ) (s new : Flat) (t v : ℕ) → IsTarget f target
    → IsUnder f target s → t < length target → positions s t < cut_of target t → LogsNext f.recorded s t v
    → OnOk result (tables new ≡ after (machine s) (tables s) (t, v)) → new.code ≡ s.code → length new.threads ≡ length s.threads
    → length new.objects ≡ length s.objects → OnErr result (Can (machine s) (tables s) (t, v) → ⊥) → Stepped f target s new t
stepped_by_result (Ok x) f target s new t v aim under there_is before next taken code threads objects never =
    stepped_by_logged_step f target s new t v aim under there_is before next taken code threads objects
stepped_by_result (Err x) f target s new t v aim under there_is before next taken code threads objects never = absurd (never next.0)

-- ---- private steps

count_own_repeated : {T : Type 0} (m : Machine T) (s : State T) (t n : ℕ) → count m s (replicate n (t, 0)) t ≡ n
count_own_repeated m s t zero = refl
count_own_repeated m s t (suc n) = ap length (trail_cons_own m s (t, 0) (replicate n (t, 0))) ∙ ap suc (count_own_repeated m (after m s (t, 0)) t n)

count_other_repeated : {T : Type 0} (m : Machine T) (s : State T) (t n u : ℕ) → u ≢ t → count m s (replicate n (t, 0)) u ≡ 0
count_other_repeated m s t zero u ne = refl
count_other_repeated m s t (suc n) u ne = ap length (trail_cons_other m s (t, 0) (replicate n (t, 0)) u ne) ∙ count_other_repeated m (after m s (t, 0)) t n u ne

pub position_after_alone : (s new : Flat) (t n : ℕ) → WentAlone s new t n → positions new t ≡ positions s t + n
position_after_alone s new t n w = ap (λ z. (z.now t).steps) w.ends ∙ (tallies_along_run s.code (tables s) (replicate n (t, 0)) w.runs t).steps
    ∙ ap (λ z. positions s t + z) (count_own_repeated (machine s) (tables s) t n)

pub other_position_alone : (s new : Flat) (t n : ℕ) → WentAlone s new t n → (u : ℕ) → u ≢ t → positions new u ≡ positions s u
other_position_alone s new t n w u ne = ap (λ z. (z.now u).steps) w.ends ∙ (tallies_along_run s.code (tables s) (replicate n (t, 0)) w.runs u).steps
    ∙ ap (λ z. positions s u + z) (count_other_repeated (machine s) (tables s) t n u ne)
    ∙ (let e : positions s u + 0 ≡ positions s u = omega arith in e)

-- a thread that advances by private steps, not past its target
pub under_target_after_alone : (f : FittedTrace) (target : List ℕ) (s new : Flat) (t n : ℕ) → IsTarget f target → IsUnder f target s
    → n ≤ cut_of target t - positions s t → WentAlone s new t n → IsUnder f target new
under_target_after_alone f target s new t n aim under few w =
    under_target_after_leading f target s new (replicate n (t, 0)) aim under w.code w.threads w.objects
    (positions_stay_below target s new t under.below (let own = position_after_alone s new t n w in let b = under.below t in omega (arith, own, few, b))
    (other_position_alone s new t n w))
    (λ run is. record {
      runs = w.runs;
      ends = w.ends;
      logs = λ u. (log_after_cut f run (positions s) u, ap (λ z. z ++ log_after_cut f run (positions s) u) (w.quiet u));
    })
