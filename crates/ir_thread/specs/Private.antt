-- Steps of a thread that are its own alone.
use Rattle.std.specs.Prelude.{◌≡◌, ◌≢◌, ℕ, ◌<◌, List, Some, None, false}
use Rattle.ir_mach.specs.Execution.{outcome_of}
use Rattle.ir_mach.specs.Steps.{ran_of}
use Rattle.ir_mach.specs.Marks.{Marked, is_marked}
use Rattle.ir_mach.specs.Run.{unmarked_after}
use Rattle.ir_mach.specs.declared.outcome.Ran.TheVariants as ran
use Rattle.ir_thread.specs.State.{ThreadState, ask_of}
use Rattle.ir_thread.specs.Permitted.{run_of}
use Rattle.ir_thread.specs.declared.ask.Ask.TheVariants as ask

-- new is old after `count` of its steps, each of which is private
pub record PrivateSteps (code : List ℕ) (count : ℕ) (old new : ThreadState) : Type 0 where
  pub steps : new ≡ run_of code count old
  pub each : (k : ℕ) → k < count → ask_of code (run_of code k old) ≡ ask.Private

-- the thread's next step is no instruction that is carried out: it has ended, or has no step left, or is at a call or before an end
abbrev pub NoInstruction : List ℕ → ThreadState → Type 0
NoInstruction code s = s.ended ≡ None → s.steps < s.budget → ran_of (outcome_of code s.core) ≢ ran.Ran

-- new is old after `count` of its steps, each of which is private and carries out an instruction that isn't marked
pub record UnmarkedSteps (code : Marked) (count : ℕ) (old new : ThreadState) : Type 0 where
  pub steps : PrivateSteps code.words count old new
  pub cores : unmarked_after count code.words code.marks old.core ≡ Some new.core

-- the thread's next step is none of these: what is at its pc is marked, or it is no instruction that is carried out
abbrev pub StopsUnmarked : Marked → ThreadState → Type 0
StopsUnmarked code s = is_marked code.marks s.core.pc ≡ false → NoInstruction code.words s
