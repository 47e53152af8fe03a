use Rattle.ir_isa.proofs.DecodedLaws.{instruction_has_code}
use Rattle.ir_isa.proofs.WordLaws.{word_of_code}
use Rattle.ir_isa.proofs.laws.encodes_again.Goals as goal

pub returns : goal.returns
returns c = λ w i fits e. word_of_code w i fits (instruction_has_code w i e)
