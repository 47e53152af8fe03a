use Rattle.std.proofs.Common.{sym, arith}
use Rattle.ir_isa.proofs.WordLaws.{word_of_code}
use Rattle.ir_isa.proofs.encoder.encode.Goals as goal

pub returns-clause-word : goal.returns-clause-word
returns-clause-word c = sym (word_of_code c.by_format.result _ (omega arith) c.by_format.ensures)
