use Rattle.ir_opened.proofs.CallerLemmas.{inside_below_events}
use Rattle.ir_why.proofs.leaves.need_of.Goals as goal

pub event_of-event-requires-clause-event : goal.event_of-event-requires-clause-event
event_of-event-requires-clause-event c =
    inside_below_events c.args.fitted.now c.known.ensures.run c.args.place.thread c.args.place.event c.requires c.trace.result.now c.trace.ensures.value
