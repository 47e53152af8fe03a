use Rattle.std.proofs.Common.{◌≡◌, ◌≤◌, take}
use Rattle.ir_search.specs.Ways.{shut}
use Rattle.ir_outcomes.proofs.hang.count_lost.Given as goal

abbrev pub invariant-loop-v : goal.invariant-loop-v
invariant-loop-v l = record {
  count : l.lost ≡ shut (take l.v l.marks);
  few : l.lost ≤ l.v;
}
