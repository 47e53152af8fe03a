use Rattle.std.proofs.Common.{◌≡◌, ◌≤◌, take}
use Rattle.ir_within.specs.Within.{marked_count}
use Rattle.ir_within.proofs.texts.marked_count.Given as goal

abbrev pub invariant-loop-is_outside : goal.invariant-loop-is_outside
invariant-loop-is_outside l = record {
  tally : l.count ≡ marked_count (take l.is_outside-index l.outside);
  few : l.count ≤ l.is_outside-index;
}
