use Rattle.ir_replay.proofs.Going.{ArePasses}
use Rattle.ir_replay.proofs.passes.go_on.Given as goal

abbrev pub invariant-passes : goal.invariant-passes
invariant-passes g l = ArePasses l.fitted l.target l.fn.flat l.flat l.most l.left

abbrev pub decreases-passes : goal.decreases-passes
decreases-passes g l = l.left
