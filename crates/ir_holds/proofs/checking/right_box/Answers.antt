use Rattle.std.proofs.Common.{◌∙◌, List, get_or, refl, sym, ap, subst, arith}
use Rattle.std.proofs.lemmas.Option.{same_Some, slice_get-get_or}
use Rattle.ir_log.specs.declared.event.Event.{Event}
use Rattle.ir_picture.specs.declared.placed_box.PlacedBox.{PlacedBox}
use Rattle.ir_holds.specs.Held.{IsHeld}
use Rattle.ir_holds.specs.Checks.{IsSpot}
use Rattle.ir_holds.specs.Needing.{OneNeedsLike, IsAfterThese}
use Rattle.ir_holds.proofs.Defaults.{no_box, no_span}
use Rattle.ir_holds.proofs.Noted.{noted_boxes_are_near, held_marks_are_some}
use Rattle.ir_holds.proofs.Checked.{needed_place_is_small, held_if_places_equal}
use Rattle.ir_picture.proofs.CallerLemmas.{event_length_le_one}
use Rattle.ir_holds.proofs.checking.right_box.Goals as goal

pub event_of-first-requires-clause-thread : goal.event_of-first-requires-clause-thread
event_of-first-requires-clause-thread c = (c.requires.boxes c.args.number _ (slice_get-get_or c.args.boxes.now c.args.number no_box c.requires.number)).thread

pub event_of-first-requires-clause-event : goal.event_of-first-requires-clause-event
event_of-first-requires-clause-event c =
    let box = c.requires.boxes c.args.number _ (slice_get-get_or c.args.boxes.now c.args.number no_box c.requires.number) in
    let some = box.some in
    let within = box.within in
    omega (arith, some, within)

pub events_in-requires : goal.events_in-requires
events_in-requires c = c.requires.boxes c.args.number _ (slice_get-get_or c.args.boxes.now c.args.number no_box c.requires.number)

pub spot_of-spot-requires-clause-marks : goal.spot_of-spot-requires-clause-marks
spot_of-spot-requires-clause-marks c = held_marks_are_some c.args.boxes.now c.args.spans.now c.args.marks.now c.requires.marks

pub spot_of-spot-requires-clause-first : goal.spot_of-spot-requires-clause-first
spot_of-spot-requires-clause-first c =
    let below = c.requires.number in
    let size = c.requires.size in
    (noted_boxes_are_near c.args.boxes.now c.args.spans.now c.args.marks.now c.args.number _ _ c.requires.marks
    (slice_get-get_or c.args.boxes.now c.args.number no_box below)
    (slice_get-get_or c.args.spans.now c.args.number no_span (omega (arith, below, size)))).0.step

pub spot_of-spot-requires-clause-last : goal.spot_of-spot-requires-clause-last
spot_of-spot-requires-clause-last c =
    let below = c.requires.number in
    let size = c.requires.size in
    (noted_boxes_are_near c.args.boxes.now c.args.spans.now c.args.marks.now c.args.number _ _ c.requires.marks
    (slice_get-get_or c.args.boxes.now c.args.number no_box below)
    (slice_get-get_or c.args.spans.now c.args.number no_span (omega (arith, below, size)))).1.step

pub spot_of-spot-requires-clause-needed : goal.spot_of-spot-requires-clause-needed
spot_of-spot-requires-clause-needed c =
    let r = c.args.trace.now in
    let boxes = c.args.boxes.now in
    let after = c.after_needs_of-needed.ensures r boxes c.requires.ends in
    let low = needed_place_is_small r boxes c.args.spans.now c.args.marks.now (OneNeedsLike c.events_in.result.now) c.after_needs_of-needed.result c.requires.size c.requires.marks after in
    omega (arith, low)

pub spot_of-spot-requires-clause-long : goal.spot_of-spot-requires-clause-long
spot_of-spot-requires-clause-long c = let is = c.length_of.ensures in let low = event_length_le_one c.event_of-first.result in omega (arith, is, low)

pub returns : goal.returns
returns c =
    let r = c.args.trace.now in
    let boxes = c.args.boxes.now in
    let spans = c.args.spans.now in
    let below = c.requires.number in
    let size = c.requires.size in
    let own : PlacedBox = get_or boxes c.args.number no_box in
    let there = slice_get-get_or boxes c.args.number no_box below in
    let span = get_or spans c.args.number no_span in
    let goes = slice_get-get_or spans c.args.number no_span (omega (arith, below, size)) in
    let right : PlacedBox = record {
      events = own.events;
      start = c.spot_of-spot.result.start;
      end = c.spot_of-spot.result.end;
      came = c.spot_of-spot.result.came;
      row = own.row;
    } in
    record {
      events = λ b is. ap (λ (x : PlacedBox). x.events) (same_Some own b (sym there ∙ is));
      row = λ b is. ap (λ (x : PlacedBox). x.row) (same_Some own b (sym there ∙ is));
      held = λ s is. subst (IsHeld r boxes spans right) (same_Some span s (sym goes ∙ is))
          (held_if_places_equal r boxes spans right span c.after_needs_of-needed.result c.event_of-first.result c.spot_of-spot.result c.event_of-first.ensures
          (subst (λ (es : List Event). IsAfterThese r boxes (OneNeedsLike es) c.after_needs_of-needed.result) c.events_in.ensures
          (c.after_needs_of-needed.ensures r boxes c.requires.ends))
          (subst (λ n. IsSpot boxes spans span c.after_needs_of-needed.result n c.spot_of-spot.result) c.length_of.ensures
          (c.spot_of-spot.ensures boxes spans c.requires.marks)) refl refl refl);
    }
