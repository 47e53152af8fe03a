use Rattle.std.proofs.Common.{◌≡◌, map, length}
use Rattle.ir_record.specs.Worlds.{NoneFailed}
use Rattle.ir_schedule_tests.proofs.silent.worlds.Given as goal

abbrev pub invariant-loop-number : goal.invariant-loop-number
invariant-loop-number l = record {
  count : length l.worlds.items ≡ l.number;
  works : NoneFailed (map (λ w. w.failed) l.worlds.items);
}
