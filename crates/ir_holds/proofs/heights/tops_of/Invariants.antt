use Rattle.std.proofs.Common.{◌≡◌, ◌+◌, length}
use Rattle.ir_holds.specs.Held.{IsLeastFrom}
use Rattle.ir_holds.specs.Heights.{IsAmongFirst, AreTops}
use Rattle.ir_holds.proofs.heights.tops_of.Given as goal

abbrev pub invariant-loop-height : goal.invariant-loop-height
invariant-loop-height l = record {
  size : length l.tops.items ≡ l.height-index + 1;
  top : IsLeastFrom 0 (IsAmongFirst l.each l.height-index) l.top;
  tops : AreTops l.each l.tops.items;
}
