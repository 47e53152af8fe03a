use Rattle.ir_moves.specs.Checkpoints.{AreCheckpoints}
use Rattle.ir_timeline.proofs.timeline.keep_passed.Given as goal

abbrev pub invariant-loop-state : goal.invariant-loop-state
invariant-loop-state l = AreCheckpoints l.fitted l.checkpoints
