use Rattle.std.proofs.Common.{◌≡◌, suc, ◌-◌, ◌∙◌, sym, arith, refl}
use Rattle.ir_diff.specs.Common.{HasMaker}
use Rattle.ir_diff.specs.Progress.{counts_of_part}
use Rattle.ir_diff.proofs.Told.{false_flag_tells, tells_maker_in_part, no_maker_if_none_noted}
use Rattle.ir_diff.proofs.common.has_maker.Goals as goal

pub returns-in-Some : goal.returns-in-Some
returns-in-Some c = λ a are.
    let later : c.args.version ≡ suc (c.args.version - 1) = omega (arith, c.if-version-eq0.false) in
    tells_maker_in_part a (counts_of_part c.args.part.now) c.args.makers.now c.args.object c.args.version (c.args.version - 1) c.in-Some.place
    c.is_counted.result are later (sym c.get.ensures ∙ c.in-Some.is) c.is_counted.ensures

pub returns-in-None : goal.returns-in-None
returns-in-None c = λ a are.
    let later : c.args.version ≡ suc (c.args.version - 1) = omega (arith, c.if-version-eq0.false) in
    false_flag_tells _ (HasMaker a (counts_of_part c.args.part.now) c.args.object c.args.version) refl
    (no_maker_if_none_noted a (counts_of_part c.args.part.now) c.args.makers.now c.args.object c.args.version (c.args.version - 1) are later
    (sym c.get.ensures ∙ c.in-None.is))
