use Rattle.ir_order.proofs.Recorded.{one_recording_by_list}
use Rattle.ir_order.proofs.laws.one_recording_by_a_list.Goals as goal

pub returns : goal.returns
returns c = one_recording_by_list
