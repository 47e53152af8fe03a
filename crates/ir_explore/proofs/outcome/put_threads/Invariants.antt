use Rattle.std.proofs.Common.{◌≡◌, ◌++◌}
use Rattle.ir_explore.specs.Texts.{outcome_threads_text}
use Rattle.ir_explore.proofs.outcome.put_threads.Given as goal

abbrev pub invariant-loop-t : goal.invariant-loop-t
invariant-loop-t l = l.text.items ≡ l.fn.text.items ++ outcome_threads_text l.threads l.t
