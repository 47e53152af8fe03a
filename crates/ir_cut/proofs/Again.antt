-- A guest with a trace has one run, up to the order of the steps.
use Rattle.std.proofs.Common.{◌≡◌, ℕ, zero, suc, ◌<◌, ◌≤◌, ◌^◌, List, [], ◌∷◌, length, sym, ap, ◌∙◌, subst, arith, inl, inr}
use Rattle.std.proofs.lemmas.Bool.{cases_lt}
use Rattle.ir_runs.specs.Machine.{Label, Quiet, Answer, EnteredAt, FailedTry, LeftAt}
use Rattle.ir_runs.specs.declared.access.Access.{Access}
use Rattle.ir_thread.proofs.CallerLemmas.{thread_machine_lawful}
use Rattle.ir_runs.specs.Run.{Step, trail, count, events, At, Emits}
use Rattle.ir_runs.proofs.CallerLemmas.{state_invariant_start, same_logs_same_trails}
use Rattle.ir_flat.proofs.CallerLemmas.{guest_start_is_idle}
use Rattle.ir_log.specs.Logging.{label_of}
use Rattle.ir_log.specs.declared.event.Event.{Event}
use Rattle.ir_log.specs.declared.event.Event.TheVariants.{Answer as Result, Read, Write, Try}
use Rattle.ir_thread.specs.declared.profile.Profile.{Profile}
use Rattle.std.specs.List.{AllByRecursion, slice_index_or}
use Rattle.ir_trace.specs.Recorded.{recorded_thread}
use Rattle.ir_trace.specs.Bounds.{IsRecorded, IsEvent}
use Rattle.ir_fit.specs.Fit.{FittedTrace, HasRun, IsRunOf}
use Rattle.ir_fit.specs.Growing.{places_of, leaves_of}
use Rattle.ir_fit.proofs.CallerLemmas.{guest_start_is_start, idle_has_empty_trail, emitting_is_guest_thread, at_is_get_or, get_or_is_at, entry_step_is_of_event}
use Rattle.ir_coherence.proofs.CallerLemmas.{recorded_thread_fits}
use Rattle.ir_cut.specs.Positions.{machine_of, start_of}

abbrev version_of_label : Label → ℕ
version_of_label Quiet = 0
version_of_label (Answer k x) = 0
version_of_label (EnteredAt o a v l) = v
version_of_label (FailedTry o) = 0
version_of_label (LeftAt o a v) = 0

-- what is kept of one run is kept of each
unfoldable pub has_run_with_given_run_if_has_some_run : (f : FittedTrace) → HasRun f → (run : List Step) → IsRunOf f.guest f.recorded run → HasRun f
has_run_with_given_run_if_has_some_run f h run is = record {
  run = run;
  whole = is;
}

-- a step is of a thread that there is
pub emitting_below_threads : (f : FittedTrace) → HasRun f → (run : List Step) → IsRunOf f.guest f.recorded run → (t i : ℕ) (k : Label)
    → Emits (machine_of f) (start_of f) run t i k → t < length f.guest.entries
unfolding has_run_with_given_run_if_has_some_run
emitting_below_threads f h run is t i k emitted = emitting_is_guest_thread f (has_run_with_given_run_if_has_some_run f h run is) t i k emitted

-- and one of those that it takes
pub emitting_step_in_count : (f : FittedTrace) (run : List Step) (t i : ℕ) (k : Label) → Emits (machine_of f) (start_of f) run t i k
    → i < count (machine_of f) (start_of f) run t
emitting_step_in_count f run t i k emitted = (at_is_get_or (trail (machine_of f) (start_of f) run t) i (emitted.0, k) emitted.1).0

-- ---- what is reported by an entry is in the trace

entry_version_is_word : (profile : Profile) (objects : ℕ) (x : Event) (o : ℕ) (a : Access) (v l : ℕ) → IsEvent profile objects x → label_of x ≡ EnteredAt o a v l → v < 2 ^ 32
entry_version_is_word profile objects (Result kind value) o a v l h e = absurd (cc e)
entry_version_is_word profile objects (Try p) o a v l h e = absurd (cc e)
entry_version_is_word profile objects (Read p w) o a v l h e = subst (λ z. z < 2 ^ 32) (ap version_of_label e) h.1
entry_version_is_word profile objects (Write p w n) o a v l h e = subst (λ z. z < 2 ^ 32) (ap version_of_label e) h.1

listed_version_is_word : (profile : Profile) (objects : ℕ) (es : List Event) → AllByRecursion (IsEvent profile objects) es → (e : ℕ) (x : Event) (o : ℕ) (a : Access) (v l : ℕ)
    → At es e x → label_of x ≡ EnteredAt o a v l → v < 2 ^ 32
listed_version_is_word profile objects [] all e x o a v l h is = absurd h
listed_version_is_word profile objects (y ∷ es) all zero x o a v l h is = entry_version_is_word profile objects y o a v l all.0 (ap label_of h ∙ is)
listed_version_is_word profile objects (y ∷ es) all (suc e) x o a v l h is = listed_version_is_word profile objects es all.1 e x o a v l h is

-- a version that is entered is a word
pub entered_version_is_word : (f : FittedTrace) → HasRun f → IsRecorded f.recorded → (run : List Step) → IsRunOf f.guest f.recorded run
    → (t i o : ℕ) (a : Access) (v l : ℕ) → Emits (machine_of f) (start_of f) run t i (EnteredAt o a v l) → v < 2 ^ 32
unfolding has_run_with_given_run_if_has_some_run
entered_version_is_word f h recorded run is t i o a v l emitted =
    let there : t < length f.guest.entries = emitting_below_threads f h run is t i (EnteredAt o a v l) emitted in
    let es : List Event = (recorded_thread f.recorded t).events in
    let e = entry_step_is_of_event f (has_run_with_given_run_if_has_some_run f h run is) t i o a v l emitted in
    let d : Event = Read 0 0 in
    listed_version_is_word f.recorded.profile f.recorded.objects es (recorded_thread_fits f.recorded recorded t (let same = is.0.threads in omega (arith, same, there))).events_fit
    e.0 (slice_index_or es e.0 d) o a v l (get_or_is_at es e.0 d e.1) (e.3 d)
