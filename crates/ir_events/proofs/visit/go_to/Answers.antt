use Rattle.ir_events.proofs.Ends.{ends_are_consistent_cut}
use Rattle.ir_events.proofs.visit.go_to.Goals as goal

pub advance_alone-state-requires-clause-target : goal.advance_alone-state-requires-clause-target
advance_alone-state-requires-clause-target c = (c.requires.ends.size, ends_are_consistent_cut c.args.fitted.now c.args.ends.now c.requires.ends)
