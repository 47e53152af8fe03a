use Rattle.std.proofs.Common.{arith}
use Rattle.std.specs.Prelude.{None}
use Rattle.ir_shrink.proofs.Changing.{all_items_counted, changes_from, item_counted, item_passed, threads_of_items, zero_and}
use Rattle.ir_shrink.proofs.switches.switches.Goals as goal

pub items-init : goal.items-init
items-init c = record { few = omega arith; counted = zero_and (changes_from None (threads_of_items c.args.items.now)) }

pub items-preserved-then-item-eq0 : goal.items-preserved-then-item-eq0
items-preserved-then-item-eq0 c = record {
  few = let few = c.items.invariant.few in omega (arith, few);
  counted = item_passed c.args.items.now c.items.item-index c.items.count c.items.last _ c.items-test.true c.if-item-eq0.true
      c.items.invariant.counted;
}

pub items-preserved : goal.items-preserved
items-preserved c = record {
  few = let few = c.items.invariant.few in let more = c.change-more.ensures.few in omega (arith, few, more);
  counted = item_counted c.args.items.now c.items.item-index c.items.count c.change-more.result c.items.last _ c.items-test.true
      (omega (arith, c.if-item-eq0.false)) c.change-more.ensures.value c.items.invariant.counted;
}

pub returns : goal.returns
returns c = all_items_counted c.args.items.now c.items.item-index c.items.count c.items.last c.items-test.false c.items.invariant.counted
