use Rattle.ir_record.proofs.Following.{turns_prefix_longer}
use Rattle.ir_record.proofs.in_order.conversion.items_of.Goals as goal

pub turns-preserved : goal.turns-preserved
turns-preserved c = turns_prefix_longer c.args.order.now c.turns.turns-index _ c.turns.items.items c.push.new.self.items c.turns-test.true
    c.turns.invariant c.in_ok-push.ensures.items
