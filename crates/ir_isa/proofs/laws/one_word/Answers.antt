use Rattle.ir_isa.proofs.Unique.{instruction_has_one_word}
use Rattle.ir_isa.proofs.laws.one_word.Goals as goal

pub returns : goal.returns
returns c = instruction_has_one_word
