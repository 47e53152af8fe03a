use Rattle.ir_within.proofs.Meaning.{outside_is_some}
use Rattle.ir_within.proofs.laws.outside_is_some.Goals as goal

pub returns : goal.returns
returns c = outside_is_some
