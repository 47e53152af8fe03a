use Rattle.std.proofs.Common.{rules}
use Rattle.ir_unit_tests.proofs.Words.{all_words_by_index}
use Rattle.ir_unit_tests.proofs.machines.words_fit.Goals as goal

pub returns : goal.returns
returns c = all_words_by_index c.args.words.now (λ i. let h = c.type_inv.words i in search (rules, h))
