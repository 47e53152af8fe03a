use Rattle.ir_explore.proofs.Recorded.{untimed_are_listed}
use Rattle.ir_explore.proofs.laws.untimed_recordings_are_listed.Goals as goal

pub returns : goal.returns
returns c = untimed_are_listed
