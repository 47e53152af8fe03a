use Rattle.std.proofs.Common.{◌≡◌, suc, ◌-◌, ◌∙◌, sym, arith, refl}
use Rattle.ir_diff.specs.Common.{HasOthersMaker}
use Rattle.ir_diff.specs.Progress.{counts_of_part}
use Rattle.ir_diff.proofs.Told.{true_flag_tells, tells_others_maker, none_noted_others_maker}
use Rattle.ir_diff.proofs.needs.has_maker.Goals as goal

pub returns-in-Some : goal.returns-in-Some
returns-in-Some c = λ r are.
    let later : c.args.version ≡ suc (c.args.version - 1) = omega (arith, c.if-version-eq0.false) in
    tells_others_maker r (counts_of_part c.args.part.now) c.args.makers.now c.args.thread c.args.object c.args.version (c.args.version - 1)
    c.in-Some.place c.is_there.result are later (sym c.get.ensures ∙ c.in-Some.is) c.is_there.ensures

pub returns-in-None : goal.returns-in-None
returns-in-None c = λ r are.
    let later : c.args.version ≡ suc (c.args.version - 1) = omega (arith, c.if-version-eq0.false) in
    true_flag_tells _ (HasOthersMaker r (counts_of_part c.args.part.now) c.args.thread c.args.object c.args.version) refl
    (none_noted_others_maker r (counts_of_part c.args.part.now) c.args.makers.now c.args.thread c.args.object c.args.version (c.args.version - 1) are later
    (sym c.get.ensures ∙ c.in-None.is))
