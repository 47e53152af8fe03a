use Rattle.ir_explore.proofs.Recorded.{recordings_outcomes}
use Rattle.ir_explore.proofs.laws.recordings_have_outcomes.Goals as goal

pub returns : goal.returns
returns c = recordings_outcomes
