use Rattle.ir_cut.specs.Moving.{IsRaised}
use Rattle.ir_cut.proofs.moving.raise.Given as goal

abbrev pub invariant-loop-place : goal.invariant-loop-place
invariant-loop-place l = IsRaised l.fn.positions.items l.positions.items l.places l.place-index
