use Rattle.std.proofs.Common.{◌≡◌, vec_len}
use Rattle.ir_trace.specs.Recorded.{recorded_thread}
use Rattle.ir_picture.specs.Boxing.{Notes, IsRepeatBefore, BoxedBefore}
use Rattle.ir_picture.proofs.boxes.add_thread.Given as goal

abbrev pub invariant-loop-event : goal.invariant-loop-event
invariant-loop-event l = record {
  objects : vec_len l.habits.read ≡ l.trace.objects;
  notes : Notes (recorded_thread l.trace l.thread).events l.event l.habits;
  before : IsRepeatBefore (recorded_thread l.trace l.thread).events l.event l.before;
  boxed : BoxedBefore l.trace l.thread l.event l.boxes.items;
}
