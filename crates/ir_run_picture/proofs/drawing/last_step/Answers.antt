use Rattle.ir_opened.proofs.CallerLemmas.{inside_below_events}
use Rattle.ir_run_picture.proofs.drawing.last_step.Goals as goal

pub event_of-requires-clause-event : goal.event_of-requires-clause-event
event_of-requires-clause-event c =
    inside_below_events c.args.fitted.now c.known.ensures.run c.args.place.thread c.args.place.event c.requires.inside c.trace.result.now c.trace.ensures.value
