use Rattle.ir_events.proofs.CallerLemmas.{ends_are_consistent_cut}
use Rattle.ir_event_walk.proofs.Taken.{private_calls_nothing}
use Rattle.ir_event_walk.proofs.stepping.go_privately.Goals as goal

pub advance_unmarked-requires-clause-target : goal.advance_unmarked-requires-clause-target
advance_unmarked-requires-clause-target c = (
  c.requires.route.last.size,
  ends_are_consistent_cut c.args.route.fitted.now c.args.route.ends.now c.requires.route.last,
)

pub returns-clause-calls : goal.returns-clause-calls
returns-clause-calls c = private_calls_nothing c.args.route.fitted.now c.args.route.code.now.words c.args.state c.advance_unmarked.result.0 c.args.t
    c.advance_unmarked.result.1 c.requires.route.words c.requires.way.stands c.advance_unmarked.ensures.stands c.advance_unmarked.ensures.gone
    c.advance_unmarked.ensures.unmarked.steps
