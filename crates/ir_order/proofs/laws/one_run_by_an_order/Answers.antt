use Rattle.ir_order.proofs.OneRun.{one_run_by_order}
use Rattle.ir_order.proofs.laws.one_run_by_an_order.Goals as goal

pub returns : goal.returns
returns c = one_run_by_order
