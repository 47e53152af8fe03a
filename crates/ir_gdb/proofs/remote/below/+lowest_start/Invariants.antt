use Rattle.std.proofs.Common.{length}
use Rattle.ir_gdb.proofs.remote.below.+lowest_start.Given as goal

abbrev pub decreases-lowest_start : goal.decreases-lowest_start
decreases-lowest_start l = length l.points.now
