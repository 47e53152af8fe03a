use Rattle.ir_thread.proofs.Conditions.{running_ask_conditions}
use Rattle.ir_thread.proofs.laws.ends_by_the_first.Goals as goal

pub returns : goal.returns
returns c = running_ask_conditions
