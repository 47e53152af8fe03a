use Rattle.std.proofs.lemmas.Nat.{and_mask, one_shl}
use Rattle.ir_isa.proofs.bits.field.Goals as goal

pub returns : goal.returns
returns c = rw (one_shl c.args.width 32 c.requires.width) (and_mask _ _)
