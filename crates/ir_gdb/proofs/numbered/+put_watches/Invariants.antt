use Rattle.std.proofs.Common.{length}
use Rattle.ir_gdb.proofs.numbered.+put_watches.Given as goal

abbrev pub decreases-put_watches : goal.decreases-put_watches
decreases-put_watches l = length l.watches.now
