use Rattle.ir_cut.specs.Positions.{cut_of}
use Rattle.ir_moves.specs.Parts.{IsOnWay}
use Rattle.ir_moves.proofs.parts.first_part.Given as goal

abbrev pub invariant-loop-t : goal.invariant-loop-t
invariant-loop-t l = IsOnWay l.fitted (cut_of l.from) (cut_of l.target) l.cut
