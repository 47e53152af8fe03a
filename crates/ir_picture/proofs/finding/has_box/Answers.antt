use Rattle.std.proofs.Common.{inl, inr, sym}
use Rattle.ir_picture.proofs.Sorted.{has_box_true_if_in_box, in_box_if_has_box_true, bool_cases}
use Rattle.ir_picture.specs.Shown.{has_box}
use Rattle.ir_picture.proofs.finding.has_box.Goals as goal

pub returns-in-Some : goal.returns-in-Some
returns-in-Some c =
    let found = c.in-Some.ensures.found in
    sym (has_box_true_if_in_box c.args.boxes.now c.args.place.thread c.args.place.event found.0 c.in-Some.field-0 found.1 found.2)

pub returns-in-None : goal.returns-in-None
returns-in-None c = elim (bool_cases (has_box c.args.boxes.now c.args.place.thread c.args.place.event)) [
  | inl is ↦
      let found = in_box_if_has_box_true c.args.boxes.now c.args.place.thread c.args.place.event is in
      absurd (c.in-None.ensures.none found.0 found.1 found.2 found.3)
  | inr not ↦ sym not
]
