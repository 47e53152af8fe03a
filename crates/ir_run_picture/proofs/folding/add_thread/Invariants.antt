use Rattle.std.proofs.Common.{◌≡◌, vec_len}
use Rattle.ir_trace.specs.Recorded.{recorded_thread}
use Rattle.ir_picture.specs.Boxing.{Notes, IsRepeatBefore}
use Rattle.ir_run_picture.specs.Boxing.{RunBoxedBefore}
use Rattle.ir_run_picture.proofs.folding.add_thread.Given as goal

abbrev pub invariant-loop-event : goal.invariant-loop-event
invariant-loop-event l = record {
  objects : vec_len l.habits.read ≡ l.fitted.recorded.objects;
  notes : Notes (recorded_thread l.fitted.recorded l.thread).events l.event l.habits;
  before : IsRepeatBefore (recorded_thread l.fitted.recorded l.thread).events l.event l.before;
  boxed : RunBoxedBefore l.fitted l.thread l.event l.boxes.items;
}
