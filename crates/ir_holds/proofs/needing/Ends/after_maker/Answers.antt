use Rattle.std.proofs.Common.{ap, sym, subst, arith}
use Rattle.ir_picture.specs.declared.table.Version.{Version}
use Rattle.ir_holds.specs.Needing.{MakesForNeed, IsAfterThese}
use Rattle.ir_holds.proofs.Needs.{after_maker_of_version}
use Rattle.ir_holds.proofs.needing.Ends.after_maker.Goals as goal

pub returns : goal.returns
returns c = λ r boxes holds. subst (IsAfterThese r boxes (MakesForNeed c.args.object c.args.version)) (sym (ap (λ (x : Version). x.left) c.get-known.ensures))
    (after_maker_of_version r boxes c.args.self.now c.args.object c.args.version holds (λ e. let not = c.if-version-eq0.false in omega (arith, e, not)))
