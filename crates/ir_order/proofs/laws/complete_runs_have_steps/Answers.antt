use Rattle.ir_order.proofs.Complete.{complete_have_steps}
use Rattle.ir_order.proofs.laws.complete_runs_have_steps.Goals as goal

pub returns : goal.returns
returns c = complete_have_steps
