use Rattle.std.proofs.Common.{◌∙◌, ℕ, Some, List, sym, ap, subst}
use Rattle.ir_past.specs.declared.stale_write.StaleWrite.{StaleWrite}
use Rattle.ir_picture.specs.Answers.{IsThereIn}
use Rattle.ir_picture.specs.Boxing.{AreBoxesApart}
use Rattle.ir_picture.specs.Places.{AreBoxesPlaced}
use Rattle.ir_picture.specs.Placing.{events_of_all, version_in}
use Rattle.ir_picture.specs.Shown.{StartsAt, AreShown, shown_stale}
use Rattle.ir_picture.specs.declared.placed_box.PlacedBox.{PlacedBox}
use Rattle.ir_picture.proofs.Cuts.{boxes_are_apart}
use Rattle.ir_picture.proofs.Circles.{no_next_box_no_circle, no_next_box_boxes_placed}
use Rattle.ir_picture.proofs.Filtered.{shown_are_some_boxes, event_start_exists}
use Rattle.ir_picture.proofs.pictures.picture_of.Goals as goal

pub shown_boxes-requires-clause-apart : goal.shown_boxes-requires-clause-apart
shown_boxes-requires-clause-apart c = subst (λ (bs : List PlacedBox). AreBoxesApart (events_of_all bs)) (sym c.boxes.ensures)
    (boxes_are_apart c.args.trace.now (events_of_all c.place_all.new.self.boxes.items) c.in_ok-place_all.ensures.placing.are.boxes)

pub shown_boxes-requires-clause-there : goal.shown_boxes-requires-clause-there
shown_boxes-requires-clause-there c = λ a is.
    let there : IsThereIn c.args.trace.now (Some a) = subst (IsThereIn c.args.trace.now) is c.requires.there in
    subst (λ (bs : List PlacedBox). (x : ℕ) × StartsAt bs a.thread a.event x) (sym c.boxes.ensures)
    (event_start_exists c.args.trace.now c.place_all.new.self.boxes.items a.thread a.event c.in_ok-place_all.ensures.placing.are.boxes there.1)

pub shown_stale-requires : goal.shown_stale-requires
shown_stale-requires c = subst (λ (bs : List PlacedBox). AreBoxesApart (events_of_all bs)) (sym c.deref.ensures.value)
    (shown_are_some_boxes c.args.trace.now c.place_all.new.self.boxes.items c.in_ok-boxes.boxes.items c.args.near.now
    c.in_ok-place_all.ensures.placing.are.boxes
    (subst (λ (bs : List PlacedBox). AreShown bs c.args.near.now c.in_ok-boxes.boxes.items) c.boxes.ensures c.in_ok-boxes.ensures)).apart

pub returns : goal.returns
returns c =
    let r = c.args.trace.now in
    let p = c.place_all.new.self in
    let are = c.in_ok-place_all.ensures.placing.are in (
      no_next_box_no_circle r p.boxes.items p.lanes.items (version_in p.table) are c.in_default.ensures,
      record {
        all = p.boxes.items;
        placed = subst (AreBoxesPlaced r p.boxes.items) (sym c.in_ok-ends.ensures)
            (no_next_box_boxes_placed r p.boxes.items p.lanes.items (version_in p.table) are c.in_default.ensures);
        shown = subst (λ (bs : List PlacedBox). AreShown bs c.args.near.now c.in_ok-boxes.boxes.items) c.boxes.ensures c.in_ok-boxes.ensures;
        rows = c.in_ok-rows.rows.items;
        are = c.in_ok-rows.ensures;
        stale = c.in_ok-stale.ensures ∙ (ap (λ (bs : List PlacedBox). shown_stale bs c.deref-2.result.now) c.deref.ensures.value
            ∙ ap (λ (xs : List StaleWrite). shown_stale c.in_ok-boxes.boxes.items xs) c.deref-2.ensures.value);
      },
    )
