use Rattle.ir_holds.proofs.Opened.{AreKeptTo}
use Rattle.ir_holds.proofs.levels.still_open.Given as goal

abbrev pub invariant-loop-number : goal.invariant-loop-number
invariant-loop-number l = AreKeptTo l.spans l.held l.own l.number-index l.still.items
