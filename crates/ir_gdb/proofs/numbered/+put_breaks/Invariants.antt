use Rattle.std.proofs.Common.{length}
use Rattle.ir_gdb.proofs.numbered.+put_breaks.Given as goal

abbrev pub decreases-put_breaks : goal.decreases-put_breaks
decreases-put_breaks l = length l.breaks.now
