use Rattle.ir_explore.proofs.Recorded.{recordings_never_fulfil}
use Rattle.ir_explore.proofs.laws.recordings_never_fulfil.Goals as goal

pub returns : goal.returns
returns c = recordings_never_fulfil
