use Rattle.ir_record.specs.Recording.{order_of_turns}
use Rattle.ir_hunt.proofs.Recorded.{ok_stale_by_order}
use Rattle.ir_hunt.proofs.stale.has_stale.Goals as goal

pub returns : goal.returns
returns g c = ok_stale_by_order c.args.image.now c.args.plan.now (order_of_turns c.args.turns.now) c.in_ok-trace.trace c.rests_in_trace.result
    c.in_ok-trace.ensures.by c.rests_in_trace.ensures
