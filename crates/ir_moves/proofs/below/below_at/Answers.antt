use Rattle.std.proofs.Common.{arith}
use Rattle.ir_moves.proofs.Lower.{length-kept_cut, kept_cut_below}
use Rattle.ir_moves.proofs.below.below_at.Goals as goal

pub position-own-requires : goal.position-own-requires
position-own-requires c =
    let size = length-kept_cut c.args.fitted.now c.args.keeper.now.kept c.in_ok-number.number c.in_ok-cut.cut.now c.requires.kept
    c.in_ok-cut.ensures.value in
    omega (arith, size, c.requires.thread)

pub returns : goal.returns
returns c =
    kept_cut_below c.args.keeper.now.kept c.in_ok-number.number c.args.t c.position-own.result c.args.position c.in_ok-cut.cut.now
    c.in_ok-cut.ensures.value c.position-own.ensures (omega (arith, c.if-own-position.false))
