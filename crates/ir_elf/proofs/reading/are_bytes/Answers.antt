use Rattle.std.proofs.Common.{rules}
use Rattle.ir_lemmas.proofs.CallerLemmas.{all_hold_if_each_holds}
use Rattle.ir_image.specs.Bounds.{IsByte}
use Rattle.ir_elf.proofs.reading.are_bytes.Goals as goal

pub returns : goal.returns
returns c = all_hold_if_each_holds IsByte c.args.bytes.now (λ i. let h = c.type_inv.bytes i in search (rules, h))
