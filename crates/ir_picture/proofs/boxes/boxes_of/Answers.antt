use Rattle.std.proofs.Common.{arith}
use Rattle.ir_picture.proofs.Boxed.{boxed_to_end_are_boxes, box_count_bound}
use Rattle.ir_picture.proofs.boxes.boxes_of.Goals as goal

pub returns-clause-boxes : goal.returns-clause-boxes
returns-clause-boxes c = boxed_to_end_are_boxes c.args.trace.now c.loop-thread.thread c.loop-thread.boxes.items
    (omega (arith, c.loop-thread-test.false, c.loop-thread.auto.thread-end, c.thread_count-thread-end.ensures)) c.loop-thread.invariant

pub returns-clause-few : goal.returns-clause-few
returns-clause-few c = box_count_bound c.args.trace.now c.loop-thread.thread c.loop-thread.boxes.items
    (omega (arith, c.loop-thread-test.false, c.loop-thread.auto.thread-end, c.thread_count-thread-end.ensures)) c.loop-thread.invariant
