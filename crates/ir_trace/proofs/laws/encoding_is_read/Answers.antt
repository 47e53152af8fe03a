use Rattle.ir_trace.proofs.Whole.{recorded_at_of_encoding}
use Rattle.ir_trace.proofs.laws.encoding_is_read.Goals as goal

pub returns : goal.returns
returns c = recorded_at_of_encoding
