use Rattle.ir_flat.proofs.Runs.{writers_are_alone}
use Rattle.ir_flat.proofs.laws.writers_alone.Goals as goal

pub returns : goal.returns
returns c = writers_are_alone
