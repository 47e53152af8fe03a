use Rattle.std.proofs.Common.{rules}
use Rattle.ir_lemmas.proofs.CallerLemmas.{all_hold_if_each_holds}
use Rattle.ir_image.specs.Bounds.{IsWord}
use Rattle.ir_elf.proofs.reading.are_words.Goals as goal

pub returns : goal.returns
returns c = all_hold_if_each_holds IsWord c.args.words.now (λ i. let h = c.type_inv.words i in search (rules, h))
