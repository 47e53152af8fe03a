use Rattle.ir_isa.specs.Words.{word_of}
use Rattle.ir_isa.proofs.DecodedLaws.{code_gives_instruction}
use Rattle.ir_isa.proofs.WordLaws.{word_of_is_code}
use Rattle.ir_isa.proofs.laws.decodes_again.Goals as goal

pub returns : goal.returns
returns c = λ i. code_gives_instruction (word_of i) i (word_of_is_code i)
