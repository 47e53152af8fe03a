-- Private steps of a thread at instructions that aren't marked.
use Rattle.std.proofs.Common.{◌≡◌, ◌+◌, ◌≤◌, ◌<◌, ℕ, zero, suc, false, List, Some, None, refl, sym, ap, ◌∙◌, arith}
use Rattle.std.proofs.lemmas.Option.{option_and_then_some}
use Rattle.ir_mach.specs.Core.{Core, Goes}
use Rattle.ir_mach.specs.Execution.{outcome_of}
use Rattle.ir_mach.specs.Marks.{Marked, is_marked, AreStoresMarked}
use Rattle.ir_mach.specs.Run.{unmarked_after, unmarked_next}
use Rattle.ir_mach.proofs.CallerLemmas.{HasUnmarkedPrefix, unmarked_are_core_steps, unmarked_has_prefix, unmarked_step_begins, unmarked_steps_memory, unmarked_next_goes}
use Rattle.ir_thread.specs.State.{ThreadState, ask_of, after_ask, after_reply, core_after}
use Rattle.ir_thread.specs.Permitted.{step_of, run_of}
use Rattle.ir_thread.specs.Private.{PrivateSteps, UnmarkedSteps}
use Rattle.ir_thread.specs.declared.ask.Ask.TheVariants as ask
use Rattle.ir_thread.specs.declared.ask.Reply.TheVariants.{Go}
use Rattle.ir_thread.proofs.PrivateRuns.{thread_after_private_steps, zero_private_steps, private_of_machine_steps, private_steps_prefix}

pub zero_unmarked_steps : (code : Marked) (s : ThreadState) → UnmarkedSteps code 0 s s
unfolding unmarked_after
zero_unmarked_steps code s = record { steps = zero_private_steps code.words s; cores = refl }

pub unmarked_of_machine_steps : (code : Marked) (s : ThreadState) (n : ℕ) (core : Core) → s.ended ≡ None → s.steps + n ≤ s.budget
    → unmarked_after n code.words code.marks s.core ≡ Some core → UnmarkedSteps code n s (thread_after_private_steps s core n)
unmarked_of_machine_steps code s n core running le e = record {
  steps = private_of_machine_steps code.words s n core running le (unmarked_are_core_steps n code.words code.marks s.core core e);
  cores = e;
}

-- ---- the first of them

-- the machine after a private step that carries out an instruction
private_core_is_next : (code : List ℕ) (s : ThreadState) (next : Core) → ask_of code s ≡ ask.Private → outcome_of code s.core ≡ Goes next
    → (step_of code s).core ≡ next
unfolding step_of after_reply
private_core_is_next code s next is goes =
    ap (λ a. (after_ask code s a Go).core) is ∙ ap (λ o. core_after s.number o s.core) goes

-- the machine after each step is the thread's
run_core_is_unmarked : (code : Marked) (k : ℕ) (s : ThreadState) (core : Core) → ((j : ℕ) → j < k → ask_of code.words (run_of code.words j s) ≡ ask.Private)
    → unmarked_after k code.words code.marks s.core ≡ Some core → (run_of code.words k s).core ≡ core
unfolding run_of unmarked_after
run_core_is_unmarked code zero s core each e = cc
run_core_is_unmarked code (suc k) s core each e =
    option_and_then_some (λ earlier. unmarked_next code.words code.marks earlier) (unmarked_after k code.words code.marks s.core) core e
    (λ earlier g next.
    let here : (run_of code.words k s).core ≡ earlier = run_core_is_unmarked code k s earlier (λ j l. each j (omega (arith, l))) g in
    let goes : outcome_of code.words earlier ≡ Goes core = (unmarked_next_goes code.words code.marks earlier core next).1 in
    private_core_is_next code.words (run_of code.words k s) core (each k (omega arith)) (ap (λ c. outcome_of code.words c) here ∙ goes))

pub unmarked_steps_prefix : (code : Marked) (k n : ℕ) (s t : ThreadState) → k ≤ n → UnmarkedSteps code n s t
    → UnmarkedSteps code k s (run_of code.words k s)
unmarked_steps_prefix code k n s t le u =
    let first : PrivateSteps code.words k s (run_of code.words k s) = private_steps_prefix code.words k n s t le u.steps in
    let b : HasUnmarkedPrefix k code.words code.marks s.core = unmarked_has_prefix k n code.words code.marks s.core t.core le u.cores in
    record { steps = first; cores = b.after ∙ ap Some (sym (run_core_is_unmarked code k s b.core first.each b.after)) }

-- what each of them begins at isn't marked
pub thread_step_unmarked : (code : Marked) (k n : ℕ) (s t : ThreadState) → k < n → UnmarkedSteps code n s t
    → is_marked code.marks (run_of code.words k s).core.pc ≡ false
thread_step_unmarked code k n s t less u =
    let first : UnmarkedSteps code k s (run_of code.words k s) = unmarked_steps_prefix code k n s t (omega (arith, less)) u in
    unmarked_step_begins k n code.words code.marks s.core t.core (run_of code.words k s).core less u.cores first.cores

-- where every store is marked, private memory is as it was
pub unmarked_keep_memory : (code : Marked) (n : ℕ) (s t : ThreadState) → AreStoresMarked code.words code.marks → UnmarkedSteps code n s t
    → t.core.memory ≡ s.core.memory
unmarked_keep_memory code n s t stores u = unmarked_steps_memory n code.words code.marks s.core t.core stores u.cores
