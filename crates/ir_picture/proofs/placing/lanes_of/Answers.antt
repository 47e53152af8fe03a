use Rattle.std.proofs.Common.{[], ◌∷◌, refl, length-append, arith}
use Rattle.ir_picture.specs.Placing.{first_point}
use Rattle.ir_picture.proofs.Sorted.{lanes_at_start_push}
use Rattle.ir_picture.proofs.placing.lanes_of.Goals as goal

pub loop-thread-preserved : goal.loop-thread-preserved
loop-thread-preserved c = rw c.in_ok-push.ensures.items (record {
  lanes = omega (arith, length-append c.loop-thread.lanes.items (record { next = c.boxes_before-next.result; free = first_point } ∷ []), c.loop-thread.invariant.lanes);
  at = lanes_at_start_push c.args.boxes.now c.loop-thread.lanes.items (record { next = c.boxes_before-next.result; free = first_point }) c.loop-thread.thread
      c.loop-thread.invariant.lanes refl c.boxes_before-next.ensures c.loop-thread.invariant.at;
})
