use Rattle.ir_trace.proofs.Whole.{recorded_at_takes}
use Rattle.ir_trace.proofs.laws.read_is_encoded.Goals as goal

pub returns : goal.returns
returns c = recorded_at_takes
