use Rattle.ir_trace.proofs.Refused.{trace_fault_is_first}
use Rattle.ir_trace.proofs.laws.first_fault_is_named.Goals as goal

pub returns : goal.returns
returns c = trace_fault_is_first
