use Rattle.std.proofs.Common.{length}
use Rattle.ir_gdb.proofs.sight.+any_holds.Given as goal

abbrev pub decreases-any_holds : goal.decreases-any_holds
decreases-any_holds l = length l.conditions.now
