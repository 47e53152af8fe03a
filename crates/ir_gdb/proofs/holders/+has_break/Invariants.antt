use Rattle.std.proofs.Common.{length}
use Rattle.ir_gdb.proofs.holders.+has_break.Given as goal

abbrev pub decreases-has_break : goal.decreases-has_break
decreases-has_break l = length l.breaks.now
