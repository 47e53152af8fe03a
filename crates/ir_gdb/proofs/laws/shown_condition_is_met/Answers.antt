use Rattle.ir_gdb.proofs.ShownOnce.{shown_condition_is_met}
use Rattle.ir_gdb.proofs.laws.shown_condition_is_met.Goals as goal

pub returns : goal.returns
returns c = shown_condition_is_met
