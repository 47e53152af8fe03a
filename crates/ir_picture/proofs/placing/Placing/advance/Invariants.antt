use Rattle.std.proofs.Common.{◌<◌}
use Rattle.ir_picture.specs.Placing.{IsPlacing, boxes_left}
use Rattle.ir_picture.proofs.placing.Placing.advance.Given as goal

abbrev pub invariant-boxes : goal.invariant-boxes
invariant-boxes l = record {
  placing : IsPlacing l.trace l.self;
  fewer : boxes_left l.self < boxes_left l.fn.self;
}

abbrev pub decreases-boxes : goal.decreases-boxes
decreases-boxes l = boxes_left l.self
