use Rattle.std.proofs.Common.{arith}
use Rattle.ir_cut.specs.Positions.{cut_of}
use Rattle.ir_moves.proofs.Ways.{least_toward_on_way}
use Rattle.ir_moves.proofs.parts.first_part.Goals as goal

pub loop-t-preserved : goal.loop-t-preserved
loop-t-preserved c =
    least_toward_on_way c.args.fitted.now (cut_of c.args.from.now) c.args.target.now c.loop-t.cut c.in_ok-cut-2.cut c.loop-t.t
    c.first_piece-position.result c.known.ensures.run c.requires.target.1 c.loop-t.invariant
    (omega (arith, c.first_piece-position.ensures, c.position-in-loop-t.ensures)) c.in_ok-cut-2.ensures.least c.in_ok-cut-2.ensures.consistent
