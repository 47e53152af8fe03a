use Rattle.ir_liveness.proofs.Threads.{differ_in_dead_lasts}
use Rattle.ir_liveness.proofs.laws.agreement_lasts.Goals as goal

pub returns : goal.returns
returns c = differ_in_dead_lasts
