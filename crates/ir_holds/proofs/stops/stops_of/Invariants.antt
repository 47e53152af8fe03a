use Rattle.ir_holds.proofs.Noted.{AreStopsTo}
use Rattle.ir_holds.proofs.stops.stops_of.Given as goal

abbrev pub invariant-loop-number : goal.invariant-loop-number
invariant-loop-number l = AreStopsTo l.boxes l.spans l.number l.stops.items
