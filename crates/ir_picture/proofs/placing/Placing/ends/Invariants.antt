use Rattle.std.proofs.Common.{◌≡◌, map, take}
use Rattle.ir_picture.specs.declared.placing.Lane.{Lane}
use Rattle.ir_picture.proofs.placing.Placing.ends.Given as goal

abbrev pub invariant-loop-lane : goal.invariant-loop-lane
invariant-loop-lane l = l.ends.items ≡ map (λ (x : Lane). x.free) (take l.lane-index l.self.lanes.items)
