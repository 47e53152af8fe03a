use Rattle.ir_within.proofs.Meaning.{within_is_each}
use Rattle.ir_within.proofs.laws.within_is_each.Goals as goal

pub returns : goal.returns
returns c = within_is_each
