use Rattle.std.proofs.Common.{arith, sym, ap}
use Rattle.std.specs.Prelude.{is_some}
use Rattle.std.proofs.lemmas.Bool.Decides.{nat_tests}
use Rattle.ir_debug.proofs.Chosen.{find_is_element, find_drop_step, find_past_length}
use Rattle.ir_debug.proofs.points.is_set.Goals as goal

pub loop-each-preserved : goal.loop-each-preserved
loop-each-preserved c =
    find_drop_step _ c.args.points.now c.loop-each.each-index c.each-item.result c.loop-each.invariant c.loop-each-test.true c.each-item.is
    (grind (arith, nat_tests, c.if-number.false, c.number.ensures))

pub returns-then-number : goal.returns-then-number
returns-then-number c =
    sym (ap is_some (find_is_element _ c.args.points.now c.loop-each.each-index c.each-item.result c.loop-each.invariant c.loop-each-test.true
    c.each-item.is (grind (arith, nat_tests, c.if-number.true, c.number.ensures))))

pub returns : goal.returns
returns c = sym (ap is_some (find_past_length _ c.args.points.now c.loop-each.each-index c.loop-each.invariant
    (omega (arith, c.loop-each-test.false, c.loop-each.auto.each-index-end))))
