use Rattle.std.proofs.Common.{map}
use Rattle.ir_schedule.specs.Conditions.{as_condition}
use Rattle.ir_graph.specs.Reached.{AllReached}
use Rattle.ir_graph.specs.Setup.{Setup}
use Rattle.ir_explore.specs.Conditions.{NoneBefore}
use Rattle.ir_explore.proofs.conditions.first_fulfilling.Given as goal

abbrev pub invariant-loop-i : goal.invariant-loop-i
invariant-loop-i l = (setup : Setup) → AllReached setup l.flats.items → NoneBefore setup.guest (map as_condition l.conditions) l.flats.items l.outcomes l.i
