use Rattle.std.proofs.Common.{List, None, Result, sym, subst}
use Rattle.std.specs.Prelude.{MatchResult}
use Rattle.ir_trace.specs.Recorded.{Recorded}
use Rattle.ir_past.specs.Answers.{AreCoherent}
use Rattle.ir_picture.specs.Answers.{IsPicture}
use Rattle.ir_picture.specs.Boxes.{AreBoxes}
use Rattle.ir_picture.specs.Needs.{HasNoCircle, IsCircleAt}
use Rattle.ir_picture.specs.Placing.{events_of_all}
use Rattle.ir_picture.specs.declared.circle.Circle.{Circle}
use Rattle.ir_picture.specs.declared.picture.Picture.{Picture}
use Rattle.ir_picture.specs.declared.placed_box.PlacedBox.{PlacedBox}
use Rattle.ir_opened.proofs.CallerLemmas.{run_trace_is_coherent}
use Rattle.ir_why.proofs.Within.{run_trace_has_no_circle}
use Rattle.ir_why.proofs.fit_run.text_there.Goals as goal

pub picture_of-requires-clause-coherent : goal.picture_of-requires-clause-coherent
picture_of-requires-clause-coherent c = subst AreCoherent (sym c.trace.ensures.value) (run_trace_is_coherent c.args.fitted.now c.known.ensures.run)

pub unreachable-requires : goal.unreachable-requires
unreachable-requires c =
    let r = c.trace.result.now in
    run_trace_has_no_circle c.runs_have_no_circle.ensures c.args.fitted.now c.known.ensures.run r c.trace.ensures.value c.in-Err.field-0.thread c.in-Err.field-0.event
    (subst (λ (x : Result Picture Circle). MatchResult x (λ p. HasNoCircle r × IsPicture r None p) (λ d. IsCircleAt r d.thread d.event)) c.in-Err.is
    c.in_ok-picture_of.ensures)

pub reason_in-requires-clause-boxes : goal.reason_in-requires-clause-boxes
reason_in-requires-clause-boxes c =
    let r = c.trace.result.now in
    let drawn : HasNoCircle r × IsPicture r None c.in-Ok.picture =
    subst (λ (x : Result Picture Circle). MatchResult x (λ p. HasNoCircle r × IsPicture r None p) (λ d. IsCircleAt r d.thread d.event)) c.in-Ok.is
    c.in_ok-picture_of.ensures in
    subst (λ (x : Recorded). AreBoxes x (events_of_all c.deref.result.now)) c.trace.ensures.value
    (subst (λ (bs : List PlacedBox). AreBoxes r (events_of_all bs)) (sym c.deref.ensures.value)
    (subst (λ (bs : List PlacedBox). AreBoxes r (events_of_all bs)) (sym drawn.1.shown) drawn.1.placed.all))
