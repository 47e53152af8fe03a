use Rattle.ir_order.proofs.Recorded.{list_recordings_of_run}
use Rattle.ir_order.proofs.laws.recordings_are_of_the_run.Goals as goal

pub returns : goal.returns
returns c = list_recordings_of_run
