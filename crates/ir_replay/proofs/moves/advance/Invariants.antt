use Rattle.ir_weave.specs.Standing.{flat_in, IsBetween}
use Rattle.ir_weave.specs.Stepping.{steps_left}
use Rattle.ir_replay.proofs.moves.advance.Given as goal

abbrev pub invariant-rounds : goal.invariant-rounds
invariant-rounds g l = IsBetween l.fitted l.target l.fn.state l.state

abbrev pub decreases-rounds : goal.decreases-rounds
decreases-rounds g l = steps_left l.target (flat_in l.fitted l.state)
