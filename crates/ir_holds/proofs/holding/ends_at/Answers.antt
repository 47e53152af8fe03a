use Rattle.ir_holds.proofs.Noted.{held_marks_are_some}
use Rattle.ir_holds.proofs.holding.ends_at.Goals as goal

pub thread_ends-requires-clause-marks : goal.thread_ends-requires-clause-marks
thread_ends-requires-clause-marks c = held_marks_are_some c.args.boxes.now c.args.spans.now c.in_ok-marks.marks c.in_ok-marks.ensures
