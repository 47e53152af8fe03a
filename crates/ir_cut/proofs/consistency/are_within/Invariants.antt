use Rattle.ir_cut.proofs.Closed.{AreFirstThreadsClosed}
use Rattle.ir_cut.proofs.consistency.are_within.Given as goal

abbrev pub invariant-loop-t : goal.invariant-loop-t
invariant-loop-t l = AreFirstThreadsClosed l.fitted l.positions l.t
