use Rattle.std.proofs.Common.{◌≡◌, length}
use Rattle.ir_trace.specs.Recorded.{recorded_thread}
use Rattle.ir_past.specs.Progress.{HoldsOpen, HasRows}
use Rattle.ir_past.proofs.stale.add_thread.Given as goal

abbrev pub invariant-loop-event : goal.invariant-loop-event
invariant-loop-event l = record {
  table : length l.table.items ≡ l.trace.objects;
  holds : HoldsOpen (recorded_thread l.trace l.thread).events l.event l.table.items;
  rows : HasRows l.trace l.thread l.event l.rows.items;
}
