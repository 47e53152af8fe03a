use Rattle.std.proofs.Common.{length}
use Rattle.ir_gdb.proofs.numbered.+put_own.Given as goal

abbrev pub decreases-put_own : goal.decreases-put_own
decreases-put_own l = length l.points.now
