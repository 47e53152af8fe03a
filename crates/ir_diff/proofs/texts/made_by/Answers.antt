use Rattle.std.proofs.Common.{◌≡◌, suc, ◌-◌, arith}
use Rattle.ir_diff.proofs.ThreadTexts.{noted_maker_made}
use Rattle.ir_diff.proofs.texts.made_by.Goals as goal

pub returns : goal.returns
returns c = λ t i l a at.
    let later : c.args.version ≡ suc (c.args.version - 1) = omega (arith, c.if-version-eq0.false) in
    noted_maker_made c.args.side.trace.now c.args.side.makers.now c.args.object c.args.version (c.args.version - 1) t i l a c.get.result c.requires
    later c.get.ensures at
