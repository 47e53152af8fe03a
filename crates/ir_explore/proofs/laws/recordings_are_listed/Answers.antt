use Rattle.ir_explore.proofs.Recorded.{recordings_are_listed}
use Rattle.ir_explore.proofs.laws.recordings_are_listed.Goals as goal

pub returns : goal.returns
returns c = recordings_are_listed
