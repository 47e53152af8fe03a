use Rattle.std.proofs.Common.{refl, ◌∙◌}
use Rattle.std.proofs.lemmas.List.{take_all}
use Rattle.std.specs.Prelude.{slice_index}
use Rattle.ir_record.proofs.Following.{order_prefix_longer, prefix_within_order}
use Rattle.ir_record.proofs.in_order.conversion.turns_of.Goals as goal

pub order-preserved : goal.order-preserved
order-preserved c = record {
  within = prefix_within_order c.args.order.now c.order.at c.repeats-more.result c.order-test.true c.repeats-more.ensures.within;
  written = order_prefix_longer c.args.order.now c.order.at c.repeats-more.result (slice_index c.args.order.now c.order.at) c.order.turns.items
      c.push.new.self.items c.order-test.true refl c.repeats-more.ensures.same c.order.invariant.written c.in_ok-push.ensures.items;
}

pub returns : goal.returns
returns c = c.order.invariant.written ∙ take_all c.order.at c.args.order.now c.order-test.false
