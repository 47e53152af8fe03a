use Rattle.std.proofs.Common.{List, None, Result, sym, subst}
use Rattle.std.specs.Prelude.{MatchResult}
use Rattle.ir_picture.specs.Answers.{IsPicture}
use Rattle.ir_picture.specs.Boxes.{AreBoxes}
use Rattle.ir_picture.specs.Needs.{HasNoCircle, IsCircleAt}
use Rattle.ir_picture.specs.Placing.{events_of_all}
use Rattle.ir_picture.specs.declared.circle.Circle.{Circle}
use Rattle.ir_picture.specs.declared.picture.Picture.{Picture}
use Rattle.ir_picture.specs.declared.placed_box.PlacedBox.{PlacedBox}
use Rattle.ir_why.proofs.run.answer_there.Goals as goal

pub reason_of-requires-clause-boxes : goal.reason_of-requires-clause-boxes
reason_of-requires-clause-boxes c =
    let r = c.args.trace.now in
    let drawn : HasNoCircle r × IsPicture r None c.in-Ok.picture =
    subst (λ (x : Result Picture Circle). MatchResult x (λ p. HasNoCircle r × IsPicture r None p) (λ d. IsCircleAt r d.thread d.event)) c.in-Ok.is
    c.in_ok-circle.ensures in
    subst (λ (bs : List PlacedBox). AreBoxes r (events_of_all bs)) (sym c.deref.ensures.value)
    (subst (λ (bs : List PlacedBox). AreBoxes r (events_of_all bs)) (sym drawn.1.shown) drawn.1.placed.all)
