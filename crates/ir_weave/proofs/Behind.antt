-- What the trace leaves to the threads at a cut is the log of the steps after it.
use Rattle.std.proofs.Common.{◌≡◌, ℕ, suc, ◌+◌, ◌<◌, List, ◌++◌, length, map, take, drop, refl, sym, ap, ◌∙◌, subst, arith, take-append-drop}
use Rattle.std.proofs.Math.Path.{fun_ext}
use Rattle.std.proofs.Math.Seq.{drop-append_seam}
use Rattle.ir_runs.specs.Machine.{Machine, Label, Quiet, Answer, EnteredAt, FailedTry, LeftAt, logged}
use Rattle.ir_runs.specs.Lawful.{IsLawful}
use Rattle.ir_thread.specs.State.{thread_machine}
use Rattle.ir_thread.specs.State as thread
use Rattle.ir_thread.proofs.CallerLemmas.{thread_machine_lawful}
use Rattle.ir_flat.specs.Flat.{Flat, tables, machine}
use Rattle.ir_runs.specs.Run.{State, Step, Can, label, IsRun, end, trail, events, log, count, Cut, IsCut, Consistent, part}
use Rattle.ir_runs.proofs.CallerLemmas.{events_append, StateInvariant, state_invariant_start, state_at_consistent_cut, PartIsRun, consistent_part_is_run, drop_at_element}
use Rattle.ir_flat.proofs.CallerLemmas.{tallies_along_run, start_thread_is_fresh, start_has_no_steps, states_equal_from_parts}
use Rattle.ir_log.specs.Logging.{label_of}
use Rattle.ir_trace.specs.Recorded.{recorded_thread}
use Rattle.ir_fit.specs.Ahead.{log_ahead}
use Rattle.ir_runs.specs.Admitted.{AtCut, Admitted}
use Rattle.ir_fit.specs.Fit.{FittedTrace, IsRunOf}
use Rattle.ir_runs.specs.Verdicts.{unlogged}
use Rattle.ir_fit.proofs.CallerLemmas.{guest_start_is_start}
use Rattle.ir_cut.specs.Positions.{machine_of, start_of}
use Rattle.ir_weave.specs.Standing.{StandsAtPlace, IsStateAt, positions}
use Rattle.ir_weave.specs.Stepping.{LogsNext}

-- ---- the guest's machine

pub guest_machine_is_lawful : (f : FittedTrace) → IsLawful (machine_of f)
guest_machine_is_lawful f = thread_machine_lawful f.guest.code

pub guest_start_invariant : (f : FittedTrace) → StateInvariant (machine_of f) (start_of f)
guest_start_invariant f = state_invariant_start (machine_of f) (start_of f) (guest_start_is_start f.guest f.recorded.budget f.recorded.profile)

-- the steps in a consistent cut
pub guest_part_is_run : (f : FittedTrace) (run : List Step) → IsRunOf f.guest f.recorded run → (p : Cut) → Consistent (machine_of f) (start_of f) run p
    → PartIsRun (machine_of f) (start_of f) run p
guest_part_is_run f run is p c = consistent_part_is_run (machine_of f) (guest_machine_is_lawful f) (start_of f) (guest_start_invariant f) run is.1.runs p c

pub guest_state_at_cut : (f : FittedTrace) (run : List Step) → IsRunOf f.guest f.recorded run → (p : Cut) → IsCut (machine_of f) (start_of f) run p
    → Consistent (machine_of f) (start_of f) run p → AtCut (machine_of f) (start_of f) run p
guest_state_at_cut f run is p cut c = state_at_consistent_cut (machine_of f) (guest_machine_is_lawful f) (start_of f) (guest_start_invariant f) run is.1.runs p cut c

-- the lists as tables
pub tables_at_cut_are_end : (f : FittedTrace) (p : Cut) (s : Flat) (run : List Step) → IsRunOf f.guest f.recorded run → StandsAtPlace f p s run
    → tables s ≡ end (machine_of f) (start_of f) (part run p)
tables_at_cut_are_end f p s run is at = states_equal_from_parts (tables s) (end (machine_of f) (start_of f) (part run p))
    (fun_ext (λ t. at.threads t ∙ sym ((guest_state_at_cut f run is p at.cut at.consistent).threads t))) (fun_ext at.objects)

-- the other way round
pub is_at_if_tables_are_end : (f : FittedTrace) (p : Cut) (s : Flat) (run : List Step) → IsRunOf f.guest f.recorded run
    → IsCut (machine_of f) (start_of f) run p → Consistent (machine_of f) (start_of f) run p
    → tables s ≡ end (machine_of f) (start_of f) (part run p) → StandsAtPlace f p s run
is_at_if_tables_are_end f p s run is cut c same = record {
  cut = cut;
  consistent = c;
  threads = λ t. ap (λ z. z.now t) same ∙ (guest_state_at_cut f run is p cut c).threads t;
  objects = λ o. ap (λ z. z.objects o) same;
}

-- ---- counts

sum_with_zero_on_left : (a b : ℕ) → a ≡ 0 → a + b ≡ b
sum_with_zero_on_left a b e = omega (arith, e)

-- a thread counts its steps and its events from the start
pub steps_at_end_are_count : (f : FittedTrace) (run : List Step) → IsRun (machine_of f) (start_of f) run → (t : ℕ)
    → ((end (machine_of f) (start_of f) run).now t).steps ≡ count (machine_of f) (start_of f) run t
steps_at_end_are_count f run ok t = (tallies_along_run f.guest.code (start_of f) run ok t).steps
    ∙ sum_with_zero_on_left ((start_of f).now t).steps (count (machine_of f) (start_of f) run t)
    (start_has_no_steps f.guest f.recorded.budget f.recorded.profile 0 (length f.guest.entries) t)

pub events_at_end_are_log : (f : FittedTrace) (run : List Step) → IsRun (machine_of f) (start_of f) run → (t : ℕ)
    → ((end (machine_of f) (start_of f) run).now t).events ≡ length (log (machine_of f) (start_of f) run t)
events_at_end_are_log f run ok t = (tallies_along_run f.guest.code (start_of f) run ok t).events
    ∙ sum_with_zero_on_left ((start_of f).now t).events (length (log (machine_of f) (start_of f) run t))
    (start_thread_is_fresh f.guest f.recorded.budget f.recorded.profile 0 (length f.guest.entries) t).events

-- ---- the log after a cut

-- what thread t logs after the cut
abbrev pub log_after_cut : FittedTrace → List Step → Cut → ℕ → List Label
log_after_cut f run p t = events (drop (p t) (trail (machine_of f) (start_of f) run t))

pub log_splits_at_cut : (f : FittedTrace) (run : List Step) → IsRunOf f.guest f.recorded run → (p : Cut)
    → Consistent (machine_of f) (start_of f) run p → (t : ℕ)
    → log (machine_of f) (start_of f) (part run p) t ++ log_after_cut f run p t ≡ log (machine_of f) (start_of f) run t
log_splits_at_cut f run is p c t =
    ap (λ z. events z ++ log_after_cut f run p t) ((guest_part_is_run f run is p c).same_trail t)
    ∙ sym (events_append (take (p t) (trail (machine_of f) (start_of f) run t)) (drop (p t) (trail (machine_of f) (start_of f) run t)))
    ∙ ap events (take-append-drop (p t) (trail (machine_of f) (start_of f) run t))

pub log_ahead_after_cut : (f : FittedTrace) (p : Cut) (s : Flat) (run : List Step) → IsRunOf f.guest f.recorded run → StandsAtPlace f p s run → (t : ℕ)
    → t < length f.guest.entries → log_ahead f.recorded s t ≡ log_after_cut f run p t
log_ahead_after_cut f p s run is at t l =
    ap (λ n. drop n (map label_of (recorded_thread f.recorded t).events))
    (ap (λ z. (z.now t).events) (tables_at_cut_are_end f p s run is at) ∙ events_at_end_are_log f (part run p) (guest_part_is_run f run is p at.consistent).ok t)
    ∙ ap (drop (length (log (machine_of f) (start_of f) (part run p) t))) (sym (is.1.logs t l) ∙ sym (log_splits_at_cut f run is p at.consistent t))
    ∙ drop-append_seam (log (machine_of f) (start_of f) (part run p) t) (log_after_cut f run p t)

-- ---- an admitted step

logged_unlogged_logged : (k : Label) (es : List Label) → logged k (unlogged k (logged k es)) ≡ logged k es
logged_unlogged_logged Quiet es = refl
logged_unlogged_logged (Answer kind value) es = refl
logged_unlogged_logged (EnteredAt o a v l) es = refl
logged_unlogged_logged (FailedTry o) es = refl
logged_unlogged_logged (LeftAt o a v) es = refl

-- what holds of the guest's lists holds of the end of the part of the run, and the other way round
pub property_to_part_end : (f : FittedTrace) (p : Cut) (s : Flat) (run : List Step) → IsRunOf f.guest f.recorded run → s.code ≡ f.guest.code
    → StandsAtPlace f p s run → (P : Machine thread.ThreadState → State thread.ThreadState → Type 0)
    → P (machine s) (tables s) → P (machine_of f) (end (machine_of f) (start_of f) (part run p))
property_to_part_end f p s run is code at P h = subst (P (machine_of f)) (tables_at_cut_are_end f p s run is at) (subst (λ c. P (thread_machine c) (tables s)) code h)

property_to_state_at_cut : (f : FittedTrace) (p : Cut) (s : Flat) (run : List Step) → IsRunOf f.guest f.recorded run → s.code ≡ f.guest.code → StandsAtPlace f p s run
    → (P : Machine thread.ThreadState → State thread.ThreadState → Type 0)
    → P (machine_of f) (end (machine_of f) (start_of f) (part run p)) → P (machine s) (tables s)
property_to_state_at_cut f p s run is code at P h = subst (λ c. P (thread_machine c) (tables s)) (sym code)
    (subst (P (machine_of f)) (sym (tables_at_cut_are_end f p s run is at)) h)

-- such a step, with what is left of the log
abbrev pub CanLog : ℕ → ℕ → List Label → Machine thread.ThreadState → State thread.ThreadState → Type 0
CanLog t r es m s = Can m s (t, r) × (logged (label m s (t, r)) (unlogged (label m s (t, r)) es) ≡ es)

-- a thread that is admitted can take its step, and logs what the trace emits next
pub admitted_logs_next : (f : FittedTrace) (s : Flat) → IsStateAt f (positions s) s → (run : List Step) → IsRunOf f.guest f.recorded run
    → (t : ℕ) → t < length f.guest.entries → Admitted (machine_of f) (start_of f) run (positions s) t → (v : ℕ) × LogsNext f.recorded s t v
admitted_logs_next f s state run is t l ad =
    let at : StandsAtPlace f (positions s) s run = state.each run is in
    let next = (guest_state_at_cut f run is (positions s) at.cut at.consistent).steps t ad in
    let emitted : Label = label (machine_of f) (end (machine_of f) (start_of f) (part run (positions s))) (t, next.0) in
    let first : log_ahead f.recorded s t ≡ logged emitted (events (drop (suc (positions s t)) (trail (machine_of f) (start_of f) run t))) =
    log_ahead_after_cut f (positions s) s run is at t l
    ∙ ap events (drop_at_element (trail (machine_of f) (start_of f) run t) (positions s t) (next.3.0, emitted) next.3.1) in (
      next.0,
      property_to_state_at_cut f (positions s) s run is state.code at (CanLog t next.0 (log_ahead f.recorded s t))
          (next.1, ap (λ es. logged emitted (unlogged emitted es)) first ∙ logged_unlogged_logged emitted _ ∙ sym first),
    )
