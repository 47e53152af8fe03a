use Rattle.ir_holds.specs.Open.{AreOfFirst}
use Rattle.ir_holds.proofs.Rows.{AreRowsTo}
use Rattle.ir_holds.proofs.Opened.{HasAllLater}
use Rattle.ir_holds.proofs.levels.rows_of.Given as goal

abbrev pub invariant-loop-own : goal.invariant-loop-own
invariant-loop-own l = record {
  rows : AreRowsTo l.spans l.own-index l.rows.items;
  held : AreOfFirst l.own-index l.held.items;
  all : HasAllLater l.spans l.own-index l.own-index l.held.items;
}
