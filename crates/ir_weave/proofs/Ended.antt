-- The last step of a thread.
use Rattle.std.proofs.Common.{◌≡◌, ◌≢◌, ℕ, suc, zero, ◌≤◌, List, [], ◌∷◌, length, refl, sym, ap, ◌∙◌, arith, inl, inr}
use Rattle.std.proofs.lemmas.Bool.{cases_lt}
use Rattle.ir_thread.specs.State.{ask_of}
use Rattle.ir_thread.specs.State as thread
use Rattle.ir_thread.specs.declared.ask.Ask.TheVariants.{Done}
use Rattle.ir_runs.specs.Machine.{Label}
use Rattle.ir_runs.specs.Run.{Step, IsRun, trail, thread_in, count, end}
use Rattle.ir_flat.proofs.CallerLemmas.{guest_start_is_idle, shared_done_is_done}
use Rattle.ir_fit.specs.Fit.{FittedTrace, IsRunOf}
use Rattle.ir_fit.proofs.CallerLemmas.{idle_has_empty_trail}
use Rattle.ir_cut.specs.Positions.{machine_of, start_of}
use Rattle.ir_weave.specs.Ahead.{HasStep, IsThreadAt}

-- after its last step a thread is as at the end
pub thread_in_past_length : {T : Type 0} (xs : List (T × Label)) (k : ℕ) (last : T) → length xs ≤ k → thread_in xs k last ≡ last
thread_in_past_length [] k last le = refl
thread_in_past_length (x ∷ xs) zero last le = absurd (omega (arith, le))
thread_in_past_length (x ∷ xs) (suc k) last le = thread_in_past_length xs k last (omega (arith, le))

-- a thread that isn't done has a step
pub not_done_has_step : (f : FittedTrace) (t : ℕ) (x : thread.ThreadState) → IsThreadAt f t x → ask_of f.guest.code x ≢ Done → HasStep f t x.steps
not_done_has_step f t x at not run of = elim (cases_lt x.steps (count (machine_of f) (start_of f) run t)) [
  | inl less ↦ less
  | inr past ↦ absurd (not (ap (ask_of f.guest.code) ((at run of).1
      ∙ thread_in_past_length (trail (machine_of f) (start_of f) run t) x.steps ((end (machine_of f) (start_of f) run).now t) past)
      ∙ shared_done_is_done (ask_of f.guest.code ((end (machine_of f) (start_of f) run).now t)) (of.1.done t)))
]

-- runs with one trace have as many steps of each thread
pub runs_have_same_counts : (f : FittedTrace) (run run' : List Step) → IsRunOf f.guest f.recorded run → IsRunOf f.guest f.recorded run' → (t : ℕ)
    → count (machine_of f) (start_of f) run t ≡ count (machine_of f) (start_of f) run' t
runs_have_same_counts f run run' of of' t = elim (cases_lt t (length f.guest.entries)) [
  | inl less ↦ of.1.steps t less ∙ sym (of'.1.steps t less)
  | inr past ↦ ap length (idle run of.1.runs past ∙ sym (idle run' of'.1.runs past))
]
  where
    idle : (r : List Step) → IsRun (machine_of f) (start_of f) r → length f.guest.entries ≤ t → trail (machine_of f) (start_of f) r t ≡ []
    idle r runs past = idle_has_empty_trail (machine_of f) (start_of f) (length f.guest.entries) (guest_start_is_idle f.guest f.recorded.budget f.recorded.profile) r
        runs t past
