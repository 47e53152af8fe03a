-- Runs that lead to the states of a guest's graph.
use Rattle.std.proofs.Common.{◌≡◌, ℕ, List, [], ◌∷◌, ◌++◌, inl, inr, sym, ap, ◌∙◌, subst}
use Rattle.ir_search.proofs.CallerLemmas.{slice_get-push_cases}
use Rattle.ir_runs.specs.Run.{State, Step, end, IsRun, IsDone}
use Rattle.ir_runs.proofs.CallerLemmas.{end_append}
use Rattle.ir_search_laws.specs.Sources.{plain_source}
use Rattle.ir_search_laws.proofs.CallerLemmas.{sourced_counts, stays_unspoilt_live}
use Rattle.ir_thread.specs.State.{ThreadState, ask_of, most_budget, thread_machine}
use Rattle.ir_world.specs.Sources.{Source, given}
use Rattle.ir_likeness.specs.Seen.{IsLive, IsSpoilt}
use Rattle.ir_likeness.proofs.CallerLemmas.{live_or_next_spoils, start_state_is_unspoilt}
use Rattle.ir_flat.specs.Flat.{tables, thread_of}
use Rattle.ir_state_store.specs.Nodes.{SourcedFlat}
use Rattle.ir_graph.specs.Setup.{Setup, setup_start, IsCountedOf}
use Rattle.ir_graph.specs.Plain.{full_by, full_of, IsAnsweredRun, GoesPlain, Rests}
use Rattle.ir_graph.specs.Reached.{beginning, IsReached, AllReached}
use Rattle.ir_graph.proofs.Full.{tables_of_full_end, answered_run_append, plain_run_is_answered, live_run_of_threads}
use Rattle.ir_graph.proofs.Plain.{TakesStep, rest_step_is_answered, like_transitive, plain_flat_is_like, step_flat_is_like}

pub answered_run_is_run : (code : List ℕ) (s : State (ThreadState × Source)) (run : List Step) → IsAnsweredRun code s run
    → IsRun (thread_machine code) (plain_source s) run
answered_run_is_run code s run a = ((sourced_counts (thread_machine code) given s run).0 a.0).0

-- an answered run after which all are done is a complete run that counts
pub done_run_is_counted : (x : Setup) (steps : List Step) → IsAnsweredRun x.guest.code (beginning x) steps
    → IsDone (thread_machine x.guest.code) (end (thread_machine x.guest.code) (tables (setup_start x).flat) steps) → IsCountedOf x most_budget steps
done_run_is_counted x steps a done = record {
  complete = (answered_run_is_run x.guest.code (beginning x) steps a, done);
  answered = ((sourced_counts (thread_machine x.guest.code) given (beginning x) steps).0 a.0).1;
  unspoilt = stays_unspoilt_live (thread_machine x.guest.code) (IsLive x.guest.code) (IsSpoilt x.guest.code) (live_or_next_spoils x.guest.code)
      (tables (setup_start x).flat) steps (live_run_of_threads x.guest.code (beginning x) steps a.1) (start_state_is_unspoilt x.guest most_budget x.profile);
}

-- the threads and objects alone, where a run leads
pub reached_tables_are_end : (x : Setup) (s : SourcedFlat) → (r : IsReached x s)
    → tables s.flat ≡ end (thread_machine x.guest.code) (tables (setup_start x).flat) r.steps
reached_tables_are_end x s r = tables_of_full_end (setup_start x) s r.steps r.ends

-- the start, once the threads went on alone
pub plain_start_is_reached : (x : Setup) (s : SourcedFlat) → GoesPlain (setup_start x) s → IsReached x s
plain_start_is_reached x s goes = record {
  like = plain_flat_is_like (setup_start x) s goes;
  steps = goes.ahead;
  answered = plain_run_is_answered x.guest.code (beginning x) goes.ahead goes.plain;
  ends = goes.ends;
}

-- a step of a thread that rests, after which it runs on alone
pub reached_after_step : (x : Setup) (s u w : SourcedFlat) (t r : ℕ) → IsReached x s → Rests (ask_of s.flat.code (thread_of s.flat t))
    → TakesStep s u t r → GoesPlain u w → IsReached x w
reached_after_step x s u w t r reached rests step goes =
    let there : State (ThreadState × Source) = end (full_by x.guest.code) (beginning x) reached.steps in
    let more : IsAnsweredRun u.flat.code (full_of u) goes.ahead = plain_run_is_answered u.flat.code (full_of u) goes.ahead goes.plain in
    let here : IsAnsweredRun s.flat.code (full_of s) ((t, r) ∷ goes.ahead) =
    answered_run_append s.flat.code (full_of s) ((t, r) ∷ []) goes.ahead (rest_step_is_answered s u t r rests step)
    (subst (λ z. IsAnsweredRun s.flat.code z goes.ahead) step.is (subst (λ z. IsAnsweredRun z (full_of u) goes.ahead) step.code more)) in
    let late : IsAnsweredRun x.guest.code there ((t, r) ∷ goes.ahead) =
    subst (λ z. IsAnsweredRun x.guest.code z ((t, r) ∷ goes.ahead)) reached.ends
    (subst (λ z. IsAnsweredRun z (full_of s) ((t, r) ∷ goes.ahead)) reached.like.code here) in
    let ended : full_of w ≡ end (full_by s.flat.code) (full_of s) ((t, r) ∷ goes.ahead) =
    goes.ends ∙ ap (λ z. end (full_by z) (full_of u) goes.ahead) step.code ∙ ap (λ z. end (full_by s.flat.code) z goes.ahead) step.is in record {
      like = like_transitive (setup_start x).flat s.flat w.flat reached.like
          (like_transitive s.flat u.flat w.flat (step_flat_is_like s u t r step) (plain_flat_is_like u w goes));
      steps = reached.steps ++ (t, r) ∷ goes.ahead;
      answered = answered_run_append x.guest.code (beginning x) reached.steps ((t, r) ∷ goes.ahead) reached.answered late;
      ends = ended ∙ ap (λ z. end (full_by z) (full_of s) ((t, r) ∷ goes.ahead)) reached.like.code
          ∙ ap (λ z. end (full_by x.guest.code) z ((t, r) ∷ goes.ahead)) reached.ends
          ∙ sym (end_append (full_by x.guest.code) (beginning x) reached.steps ((t, r) ∷ goes.ahead));
    }

-- a state more
pub all_reached_push : (x : Setup) (states : List SourcedFlat) (new : SourcedFlat) → AllReached x states → IsReached x new
    → AllReached x (states ++ new ∷ [])
all_reached_push x states new all is v s here = elim (slice_get-push_cases states new v s here) [
  | inl old ↦ all v s old
  | inr p ↦ subst (IsReached x) p.1 is
]
