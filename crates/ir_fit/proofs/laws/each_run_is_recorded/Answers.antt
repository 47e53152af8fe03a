use Rattle.ir_fit.proofs.Recordable.{each_run_is_recorded}
use Rattle.ir_fit.proofs.laws.each_run_is_recorded.Goals as goal

pub returns : goal.returns
returns c = each_run_is_recorded
