use Rattle.ir_cut.specs.Moving.{IsLowered}
use Rattle.ir_cut.proofs.moving.lower.Given as goal

abbrev pub invariant-loop-place : goal.invariant-loop-place
invariant-loop-place l = IsLowered l.fn.positions.items l.positions.items l.places l.place-index
