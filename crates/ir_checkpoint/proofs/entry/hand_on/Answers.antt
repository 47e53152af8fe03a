use Rattle.std.proofs.Common.{rules, get_or, ap, ◌∙◌, arith}
use Rattle.ir_checkpoint.specs.Store.{first_stored}
use Rattle.ir_checkpoint.proofs.Laid.{handed_values_step}
use Rattle.ir_checkpoint.proofs.entry.hand_on.Goals as goal

pub loop-i-preserved : goal.loop-i-preserved
loop-i-preserved c =
    let own = c.loop-i.own in
    let gifts = c.loop-i.gifts.items in
    let i = c.loop-i.i in
    let mine = c.prefer.ensures ∙ ap (first_stored (get_or own i c.index-own-i.result)) (c.take-gift.ensures.value ∙ c.index_mut.ensures.value) in
    record {
      same = search rules;
      rest = handed_values_step own gifts i _ _ c.prefer.new.own c.take-gift.new.self (omega (arith, c.loop-i-test.true, c.loop-i.auto.own))
          (omega (arith, c.loop-i-test.true, c.loop-i.auto.own, c.loop-i.invariant.same)) mine c.take-gift.ensures.after
          ∙ c.loop-i.invariant.rest;
    }
