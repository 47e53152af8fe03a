use Rattle.ir_isa.proofs.DecodedLaws.{code_gives_instruction, instruction_has_code}
use Rattle.ir_isa.proofs.laws.found_by_code.Goals as goal

pub returns : goal.returns
returns c = λ w i. (instruction_has_code w i, code_gives_instruction w i)
