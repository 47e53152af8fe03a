use Rattle.ir_image.proofs.Refused.{guest_fault_is_first}
use Rattle.ir_image.proofs.laws.first_fault_is_named.Goals as goal

pub returns : goal.returns
returns c = guest_fault_is_first
