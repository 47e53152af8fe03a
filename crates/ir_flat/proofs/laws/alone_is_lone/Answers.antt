use Rattle.ir_flat.proofs.Lone.{lone_run_is_alone}
use Rattle.ir_flat.proofs.laws.alone_is_lone.Goals as goal

pub returns : goal.returns
returns c = lone_run_is_alone
