use Rattle.std.proofs.Common.{◌<◌}
use Rattle.ir_cut.specs.Positions.{cut_of}
use Rattle.ir_cut.specs.Moving.{EachPlace}
use Rattle.ir_cut.proofs.moving.are_inside.Given as goal

abbrev pub invariant-loop-place : goal.invariant-loop-place
invariant-loop-place l = EachPlace l.places l.place-index (λ p. p.position < cut_of l.positions p.thread)
