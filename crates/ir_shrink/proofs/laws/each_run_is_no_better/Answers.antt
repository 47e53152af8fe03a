use Rattle.ir_shrink.proofs.Unique.{each_run_no_better}
use Rattle.ir_shrink.proofs.laws.each_run_is_no_better.Goals as goal

pub returns : goal.returns
returns c = each_run_no_better
