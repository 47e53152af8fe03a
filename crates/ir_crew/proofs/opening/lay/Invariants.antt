use Rattle.ir_crew.proofs.Ending.{IsLaying}
use Rattle.ir_crew.proofs.opening.lay.Given as goal

abbrev pub invariant-loop-at : goal.invariant-loop-at
invariant-loop-at l = IsLaying l.image l.laid.items l.at
