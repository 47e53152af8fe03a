use Rattle.ir_gdb.proofs.Unpassed.{move_passes_no_hit}
use Rattle.ir_gdb.proofs.laws.no_hit_is_passed.Goals as goal

pub returns : goal.returns
returns c = move_passes_no_hit
