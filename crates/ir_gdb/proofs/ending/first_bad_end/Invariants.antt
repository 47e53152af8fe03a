use Rattle.std.proofs.Common.{◌≡◌, None}
use Rattle.ir_gdb.specs.Endings.{first_bad_end}
use Rattle.ir_gdb.proofs.ending.first_bad_end.Given as goal

abbrev pub invariant-threads : goal.invariant-threads
invariant-threads l = first_bad_end l.fitted l.thread ≡ None
