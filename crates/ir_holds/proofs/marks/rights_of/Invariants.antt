use Rattle.std.proofs.Common.{◌≡◌, take, map}
use Rattle.ir_holds.specs.Stops.{right_height}
use Rattle.ir_holds.proofs.marks.rights_of.Given as goal

abbrev pub invariant-loop-stop : goal.invariant-loop-stop
invariant-loop-stop l = l.heights.items ≡ map right_height (take l.stop-index l.stops)
