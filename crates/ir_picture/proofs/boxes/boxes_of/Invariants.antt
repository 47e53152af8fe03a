use Rattle.ir_picture.specs.Boxing.{BoxedBefore}
use Rattle.ir_picture.proofs.boxes.boxes_of.Given as goal

abbrev pub invariant-loop-thread : goal.invariant-loop-thread
invariant-loop-thread l = BoxedBefore l.trace l.thread 0 l.boxes.items
