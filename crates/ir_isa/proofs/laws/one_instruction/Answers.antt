use Rattle.ir_isa.proofs.Unique.{word_has_one_instruction}
use Rattle.ir_isa.proofs.laws.one_instruction.Goals as goal

pub returns : goal.returns
returns c = word_has_one_instruction
