use Rattle.std.proofs.Common.{◌≡◌, take}
use Rattle.std.specs.Prelude.{filter}
use Rattle.ir_picture.specs.Shown.{is_near}
use Rattle.ir_picture.proofs.around.near_boxes.Given as goal

abbrev pub invariant-loop-own : goal.invariant-loop-own
invariant-loop-own l = l.shown.items ≡ filter (is_near l.middle.start.x l.near.span) (take l.own-index l.boxes)
