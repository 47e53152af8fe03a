use Rattle.std.proofs.Common.{◌∙◌, ℕ, List, Option, Some, ap, refl, sym, subst, arith}
use Rattle.ir_trace.specs.Recorded.{Recorded}
use Rattle.ir_trace.proofs.CallerLemmas.{recorded_threads_within}
use Rattle.ir_past.specs.Past.{AreStaleWrites}
use Rattle.ir_past.specs.declared.stale_write.StaleWrite.{StaleWrite}
use Rattle.ir_stale_run.specs.Rests.{AreRests}
use Rattle.ir_stale_run.specs.declared.rest.Rest.{Rest}
use Rattle.ir_picture.specs.Answers.{IsThereIn}
use Rattle.ir_picture.specs.Boxing.{AreBoxesApart}
use Rattle.ir_picture.specs.Placing.{events_of_all}
use Rattle.ir_picture.specs.Shown.{StartsAt, AreShown}
use Rattle.ir_picture.specs.declared.placed_box.PlacedBox.{PlacedBox}
use Rattle.ir_picture.proofs.CallerLemmas.{shown_of_some_boxes}
use Rattle.ir_run_picture.specs.Resting.{resting_writes, stale_of_rests}
use Rattle.ir_run_picture.proofs.Shown.{run_has_some_boxes, run_event_start_exists, held_is_run_picture}
use Rattle.ir_run_picture.proofs.pictures.picture_of_held.Goals as goal

pub shown_boxes-requires-clause-apart : goal.shown_boxes-requires-clause-apart
shown_boxes-requires-clause-apart c = subst (λ (bs : List PlacedBox). AreBoxesApart (events_of_all bs)) (sym c.deref.ensures.value)
    (run_has_some_boxes c.args.fitted.now (events_of_all c.args.held.boxes.items) c.requires.held.1.all).apart

pub shown_boxes-requires-clause-there : goal.shown_boxes-requires-clause-there
shown_boxes-requires-clause-there c = λ a is.
    let there : IsThereIn c.args.fitted.now.recorded (Some a) = subst (IsThereIn c.args.fitted.now.recorded) is c.requires.there in
    subst (λ (bs : List PlacedBox). (x : ℕ) × StartsAt bs a.thread a.event x) (sym c.deref.ensures.value)
    (run_event_start_exists c.args.fitted.now c.args.held.boxes.items a.thread a.event c.requires.held.1.all there.1)

pub shown_boxes-requires-clause-small : goal.shown_boxes-requires-clause-small
shown_boxes-requires-clause-small c = λ a is.
    let there : IsThereIn c.args.fitted.now.recorded (Some a) = subst (IsThereIn c.args.fitted.now.recorded) is c.requires.there in
    let below = there.0 in
    let few = recorded_threads_within c.args.fitted.now.recorded c.known.ensures.within in
    omega (arith, below, few)

pub resting_writes-requires-clause-apart : goal.resting_writes-requires-clause-apart
resting_writes-requires-clause-apart c =
    let f = c.args.fitted.now in
    let near = c.args.near.now in
    subst (λ (bs : List PlacedBox). AreBoxesApart (events_of_all bs)) (sym c.deref-3.ensures.value)
    (shown_of_some_boxes f.recorded c.args.held.boxes.items c.in_ok-shown.shown.items near
    (run_has_some_boxes f (events_of_all c.args.held.boxes.items) c.requires.held.1.all)
    (subst (λ (bs : List PlacedBox). AreShown bs near c.in_ok-shown.shown.items) c.deref.ensures.value c.in_ok-shown.ensures)).apart

pub returns-clause-drawn : goal.returns-clause-drawn
returns-clause-drawn c =
    let f = c.args.fitted.now in
    let near = c.args.near.now in
    (held_is_run_picture f near c.args.held.boxes.items c.args.held.ends.items
    (record { boxes = c.in_ok-shown.shown; ends = c.args.held.ends; stale = c.in_ok-stale.stale }) c.in_ok-rows.rows.items
    c.in_ok-found.found.items c.in_ok-kept.kept.items c.requires.held
    (subst (λ (bs : List PlacedBox). AreShown bs near c.in_ok-shown.shown.items) c.deref.ensures.value c.in_ok-shown.ensures) refl
    (subst (λ (r : Recorded). AreStaleWrites r c.in_ok-rows.rows.items) c.trace.ensures.value c.in_ok-rows.ensures)
    (subst (λ (xs : List StaleWrite). AreRests f xs c.in_ok-found.found.items) c.deref-2.ensures.value c.in_ok-found.ensures)
    (c.in_ok-kept.ensures
    ∙ ap (λ (bs : List PlacedBox). resting_writes bs c.deref-4.result.now c.deref-5.result.now) c.deref-3.ensures.value
    ∙ ap (λ (xs : List StaleWrite). resting_writes c.in_ok-shown.shown.items xs c.deref-5.result.now) c.deref-4.ensures.value
    ∙ ap (λ (rs : List (Option Rest)). resting_writes c.in_ok-shown.shown.items c.in_ok-rows.rows.items rs) c.deref-5.ensures.value)
    (c.in_ok-stale.ensures ∙ ap stale_of_rests c.deref-6.ensures.value)).0

pub returns-clause-of_trace : goal.returns-clause-of_trace
returns-clause-of_trace c =
    let f = c.args.fitted.now in
    let near = c.args.near.now in
    (held_is_run_picture f near c.args.held.boxes.items c.args.held.ends.items
    (record { boxes = c.in_ok-shown.shown; ends = c.args.held.ends; stale = c.in_ok-stale.stale }) c.in_ok-rows.rows.items
    c.in_ok-found.found.items c.in_ok-kept.kept.items c.requires.held
    (subst (λ (bs : List PlacedBox). AreShown bs near c.in_ok-shown.shown.items) c.deref.ensures.value c.in_ok-shown.ensures) refl
    (subst (λ (r : Recorded). AreStaleWrites r c.in_ok-rows.rows.items) c.trace.ensures.value c.in_ok-rows.ensures)
    (subst (λ (xs : List StaleWrite). AreRests f xs c.in_ok-found.found.items) c.deref-2.ensures.value c.in_ok-found.ensures)
    (c.in_ok-kept.ensures
    ∙ ap (λ (bs : List PlacedBox). resting_writes bs c.deref-4.result.now c.deref-5.result.now) c.deref-3.ensures.value
    ∙ ap (λ (xs : List StaleWrite). resting_writes c.in_ok-shown.shown.items xs c.deref-5.result.now) c.deref-4.ensures.value
    ∙ ap (λ (rs : List (Option Rest)). resting_writes c.in_ok-shown.shown.items c.in_ok-rows.rows.items rs) c.deref-5.ensures.value)
    (c.in_ok-stale.ensures ∙ ap stale_of_rests c.deref-6.ensures.value)).1
