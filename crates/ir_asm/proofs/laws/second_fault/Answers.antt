use Rattle.ir_asm.proofs.PlacingLaws.{assembled_fault_first}
use Rattle.ir_asm.proofs.laws.second_fault.Goals as goal

pub returns-clause-exact : goal.returns-clause-exact
returns-clause-exact c = assembled_fault_first
