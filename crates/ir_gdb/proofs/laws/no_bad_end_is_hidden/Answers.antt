use Rattle.ir_gdb.proofs.Untold.{no_move_hides_bad_end}
use Rattle.ir_gdb.proofs.laws.no_bad_end_is_hidden.Goals as goal

pub returns : goal.returns
returns c = no_move_hides_bad_end
