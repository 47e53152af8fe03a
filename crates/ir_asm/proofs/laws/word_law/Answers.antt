-- The word law, by what ir_isa says of encoding what was decoded.
use Rattle.ir_asm.proofs.Law.{text_of_word_assembles}
use Rattle.ir_asm.proofs.laws.word_law.Goals as goal

pub returns : goal.returns
returns c = text_of_word_assembles c.encodes_again.ensures
