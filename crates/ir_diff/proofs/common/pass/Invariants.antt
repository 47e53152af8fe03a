use Rattle.ir_diff.proofs.Parts.{IsPassed}
use Rattle.ir_diff.proofs.common.pass.Given as goal

abbrev pub invariant-loop-thread : goal.invariant-loop-thread
invariant-loop-thread l = IsPassed l.a l.b l.fn.part l.part l.thread l.moved
