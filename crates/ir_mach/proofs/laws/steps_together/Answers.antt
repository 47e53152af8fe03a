use Rattle.ir_mach.proofs.Runs.{core_after_sum}
use Rattle.ir_mach.proofs.laws.steps_together.Goals as goal

pub returns : goal.returns
returns c = core_after_sum
