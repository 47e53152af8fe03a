use Rattle.std.proofs.Common.{arith, sym, ap, ◌∙◌, Some, option_map}
use Rattle.std.proofs.lemmas.Bool.Decides.{nat_tests}
use Rattle.ir_debug.specs.Machine.{Kept}
use Rattle.ir_debug.proofs.Chosen.{find_is_element, find_drop_step, find_past_length}
use Rattle.ir_debug.proofs.kept.kept_cut.Goals as goal

pub loop-each-preserved : goal.loop-each-preserved
loop-each-preserved c =
    find_drop_step _ c.args.kept.now c.loop-each.each-index c.each-item.result c.loop-each.invariant c.loop-each-test.true c.each-item.is
    (grind (arith, nat_tests, c.if-number.false, c.number.ensures))

pub returns-then-number : goal.returns-then-number
returns-then-number c =
    ap (option_map (λ (k : Kept). k.cut)) (find_is_element _ c.args.kept.now c.loop-each.each-index c.each-item.result c.loop-each.invariant
    c.loop-each-test.true c.each-item.is (grind (arith, nat_tests, c.if-number.true, c.number.ensures)))
    ∙ ap Some (sym c.cut.ensures)

pub returns : goal.returns
returns c = ap (option_map (λ (k : Kept). k.cut)) (find_past_length _ c.args.kept.now c.loop-each.each-index c.loop-each.invariant
    (omega (arith, c.loop-each-test.false, c.loop-each.auto.each-index-end)))
