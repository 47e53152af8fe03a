use Rattle.ir_run_picture.specs.Boxing.{RunBoxedBefore}
use Rattle.ir_run_picture.proofs.folding.run_boxes_of.Given as goal

abbrev pub invariant-loop-thread : goal.invariant-loop-thread
invariant-loop-thread l = RunBoxedBefore l.fitted l.thread 0 l.boxes.items
