use Rattle.ir_order.proofs.OneRun.{one_run_by_turns}
use Rattle.ir_order.proofs.laws.one_run_by_turns.Goals as goal

pub returns : goal.returns
returns c = one_run_by_turns
