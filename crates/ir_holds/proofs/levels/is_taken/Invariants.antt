use Rattle.ir_holds.proofs.Opened.{IsNotTakenTo}
use Rattle.ir_holds.proofs.levels.is_taken.Given as goal

abbrev pub invariant-loop-number : goal.invariant-loop-number
invariant-loop-number l = IsNotTakenTo l.spans l.rows l.held l.own l.row l.number-index
