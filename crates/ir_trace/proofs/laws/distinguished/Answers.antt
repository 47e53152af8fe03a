use Rattle.ir_trace.proofs.Telling.{recorded_equal_by_trace}
use Rattle.ir_trace.proofs.laws.distinguished.Goals as goal

pub returns : goal.returns
returns c = recorded_equal_by_trace c.one_label_each.ensures
