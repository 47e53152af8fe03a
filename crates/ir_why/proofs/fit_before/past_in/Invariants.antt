use Rattle.ir_why.proofs.Waited.{IsPastSoFar}
use Rattle.ir_why.proofs.fit_before.past_in.Given as goal

abbrev pub invariant-loop-thread : goal.invariant-loop-thread
invariant-loop-thread l = IsPastSoFar l.fitted l.here l.cut l.counts.items l.thread
