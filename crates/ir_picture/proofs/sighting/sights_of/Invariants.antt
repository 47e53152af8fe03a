use Rattle.ir_picture.specs.Seeing.{SightsBefore}
use Rattle.ir_picture.proofs.sighting.sights_of.Given as goal

abbrev pub invariant-loop-thread : goal.invariant-loop-thread
invariant-loop-thread l = SightsBefore l.trace l.boxes l.thread 0 l.sights.items
