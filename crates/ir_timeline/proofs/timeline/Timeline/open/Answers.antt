use Rattle.std.proofs.Common.{refl}
use Rattle.ir_cut.specs.Positions.{first_cut}
use Rattle.ir_timeline.proofs.Ends.{start_at_first_cut}
use Rattle.ir_timeline.proofs.timeline.Timeline.open.Goals as goal

pub returns-clause-start : goal.returns-clause-start
returns-clause-start c = start_at_first_cut c.args.fitted c.in_ok-state.state (first_cut c.args.fitted) refl c.in_ok-state.ensures.start
