use Rattle.std.proofs.Common.{◌∙◌, sym, arith}
use Rattle.ir_thread.proofs.Highest.{object_above_highest, object_not_above, none_held_between_step}
use Rattle.ir_thread.proofs.holding.is_free_from.Goals as goal

pub loop-number-init : goal.loop-number-init
loop-number-init c i from below = absurd (omega (arith, from, below))

pub loop-number-preserved : goal.loop-number-preserved
loop-number-preserved c = none_held_between_step c.args.held.now c.args.object c.loop-number.number (sym c.is_some.ensures ∙ c.if-is_some.false)
    c.loop-number.invariant

pub returns-then-is_some : goal.returns-then-is_some
returns-then-is_some c = sym (object_not_above c.args.held.now c.args.object c.loop-number.number c.loop-number.auto.number
    (sym c.is_some.ensures ∙ c.if-is_some.true))

pub returns : goal.returns
returns c = let over = c.loop-number-test.false in sym (object_above_highest c.args.held.now c.args.object
    (λ i from below. c.loop-number.invariant i from (omega (arith, over, below))))
