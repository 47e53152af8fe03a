use Rattle.std.proofs.Common.{◌≡◌, true}
use Rattle.ir_gdb.specs.Endings.{are_ended}
use Rattle.ir_gdb.proofs.ending.is_end.Given as goal

abbrev pub invariant-threads : goal.invariant-threads
invariant-threads l = are_ended l.fitted l.cut l.thread ≡ true
