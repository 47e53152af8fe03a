use Rattle.ir_record.specs.Recording.{turns_of_items}
use Rattle.ir_shrink.proofs.Recorded.{ok_stale_in_turns}
use Rattle.ir_shrink.proofs.judging.Judge.has_stale.Goals as goal

pub returns : goal.returns
returns g c = ok_stale_in_turns c.args.self.now.image.now c.args.self.now.plan.now.record (turns_of_items c.args.items.now) c.in_ok-trace.trace
    c.rests_in_trace.result c.in_ok-trace.ensures.by c.rests_in_trace.ensures
