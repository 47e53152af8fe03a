use Rattle.std.proofs.Common.{◌≡◌, ◌≤◌}
use Rattle.ir_cut.specs.Positions.{cut_of}
use Rattle.ir_weave.specs.Woven.{IsSeated}
use Rattle.ir_tests.proofs.weave_tests.try_steps.Given as goal

abbrev pub invariant-tries : goal.invariant-tries
invariant-tries l = record {
  table : l.seat.table_id ≡ l.weave.table.shared.table_id;
  seated : IsSeated l.weave.table.shared.key l.seat.me.0 l.thread;
  below : l.thread.steps ≤ cut_of l.target l.thread.number;
}
