use Rattle.std.proofs.Common.{◌≡◌, take}
use Rattle.ir_picture.specs.Placing.{events_of_all}
use Rattle.ir_picture.proofs.placing.unplaced_all.Given as goal

abbrev pub invariant-loop-own : goal.invariant-loop-own
invariant-loop-own l = events_of_all l.boxes.items ≡ take l.own-index l.events
