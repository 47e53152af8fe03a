use Rattle.ir_events.proofs.CallerLemmas.{ends_are_consistent_cut}
use Rattle.ir_event_walk.proofs.stepping.take_steps.Goals as goal

pub advance_alone-state-requires-clause-target : goal.advance_alone-state-requires-clause-target
advance_alone-state-requires-clause-target c = (
  c.requires.route.last.size,
  ends_are_consistent_cut c.args.route.fitted.now c.args.route.ends.now c.requires.route.last,
)
