use Rattle.ir_within.proofs.First.{recorded_is_outside}
use Rattle.ir_within.proofs.laws.recorded_is_outside.Goals as goal

pub returns : goal.returns
returns c = recorded_is_outside
