use Rattle.ir_isa.proofs.WordLaws.{word_of_code}
use Rattle.ir_isa.proofs.laws.word_by_code.Goals as goal

pub returns : goal.returns
returns c = word_of_code
