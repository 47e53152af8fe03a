use Rattle.std.proofs.Common.{◌<◌, ◌^◌, sym, subst}
use Rattle.ir_image.specs.Bounds.{IsGuest}
use Rattle.ir_trace.specs.Recorded.{Recorded}
use Rattle.ir_picture.specs.Boxes.{IsBox}
use Rattle.ir_holds.specs.Schedules.{HasSchedule, all_steps}
use Rattle.ir_holds.specs.Checks.{HoldAll}
use Rattle.ir_holds.specs.declared.held.HeldBoxes.{HeldBoxes}
use Rattle.ir_run_picture.specs.Held.{HaveHeld}
use Rattle.ir_run_picture.proofs.Shown.{run_box_is_box}
use Rattle.ir_run_picture.proofs.HeldOf.{held_boxes_of_run}
use Rattle.ir_run_picture.proofs.Scheduled.{run_has_schedule, run_spans_rise}
use Rattle.ir_run_picture.proofs.Few.{all_steps_bound}
use Rattle.ir_lemmas.proofs.CallerLemmas.{if_ok_of_implied}
use Rattle.ir_run_picture.proofs.pictures.held_in.Goals as goal

pub held_boxes-requires-clause-boxes : goal.held_boxes-requires-clause-boxes
held_boxes-requires-clause-boxes c = λ k b at. subst (λ (r : Recorded). IsBox r b) (sym c.trace.ensures.value) (run_box_is_box c.args.fitted.now b (c.requires.events.each k b at))

pub held_boxes-requires-clause-size : goal.held_boxes-requires-clause-size
held_boxes-requires-clause-size c = c.requires.go.size

pub held_boxes-requires-clause-rising : goal.held_boxes-requires-clause-rising
held_boxes-requires-clause-rising c = run_spans_rise c.args.fitted.now c.args.events.now c.args.spans.now c.known.ensures c.requires.events c.requires.go

pub held_boxes-requires-clause-schedule : goal.held_boxes-requires-clause-schedule
held_boxes-requires-clause-schedule c = subst (λ (r : Recorded). HasSchedule r c.args.events.now c.args.spans.now) (sym c.trace.ensures.value)
    (run_has_schedule c.args.fitted.now c.args.events.now c.args.spans.now c.known.ensures c.requires.events c.requires.go)

pub held_boxes-requires-clause-few : goal.held_boxes-requires-clause-few
held_boxes-requires-clause-few c = subst (λ (r : Recorded). all_steps r < 2 ^ 53) (sym c.trace.ensures.value) (all_steps_bound c.args.fitted.now c.known.ensures
    (subst IsGuest c.image.ensures.value c.form.ensures.within))

pub returns : goal.returns
returns c = if_ok_of_implied (HoldAll c.trace.result.now c.args.events.now c.args.spans.now) (λ (h : HeldBoxes). HaveHeld c.args.fitted.now h.boxes.items h.ends.items)
    c.held_boxes.result
    (λ h hold. held_boxes_of_run c.args.fitted.now c.trace.result.now c.args.events.now c.args.spans.now h c.trace.ensures.value c.requires.events
    c.requires.go hold)
    c.held_boxes.ensures
