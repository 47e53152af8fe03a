use Rattle.ir_picture.specs.Placing.{IsPlacing, boxes_left}
use Rattle.ir_picture.proofs.placing.Placing.place_all.Given as goal

abbrev pub invariant-lanes : goal.invariant-lanes
invariant-lanes l = IsPlacing l.trace l.self

abbrev pub decreases-lanes : goal.decreases-lanes
decreases-lanes l = boxes_left l.self
