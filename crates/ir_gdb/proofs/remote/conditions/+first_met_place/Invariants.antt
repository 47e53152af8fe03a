use Rattle.std.proofs.Common.{length}
use Rattle.ir_gdb.proofs.remote.conditions.+first_met_place.Given as goal

abbrev pub decreases-first_met_place : goal.decreases-first_met_place
decreases-first_met_place l = length l.breaks.now
