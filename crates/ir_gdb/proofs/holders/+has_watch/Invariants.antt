use Rattle.std.proofs.Common.{length}
use Rattle.ir_gdb.proofs.holders.+has_watch.Given as goal

abbrev pub decreases-has_watch : goal.decreases-has_watch
decreases-has_watch l = length l.watches.now
