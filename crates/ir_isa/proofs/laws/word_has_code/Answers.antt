use Rattle.ir_isa.proofs.WordLaws.{word_of_bound, word_of_is_code}
use Rattle.ir_isa.proofs.laws.word_has_code.Goals as goal

pub returns-clause-fits : goal.returns-clause-fits
returns-clause-fits c = word_of_bound

pub returns-clause-code : goal.returns-clause-code
returns-clause-code c = word_of_is_code
