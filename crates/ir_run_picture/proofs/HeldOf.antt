-- Boxes of a run with their places.
use Rattle.std.proofs.Common.{◌≡◌, Some, List, length, sym, ap, ◌∙◌, subst}
use Rattle.std.specs.List.{slice_get}
use Rattle.ir_trace.specs.Recorded.{Recorded}
use Rattle.ir_fit.specs.Fit.{FittedTrace}
use Rattle.ir_opened.specs.Paired.{ArePaired}
use Rattle.ir_lemmas.proofs.CallerLemmas.{length_of_map}
use Rattle.ir_picture.specs.declared.event_box.EventBox.{EventBox}
use Rattle.ir_picture.specs.declared.placed_box.PlacedBox.{PlacedBox}
use Rattle.ir_picture.proofs.CallerLemmas.{slice_get_of_map}
use Rattle.ir_holds.specs.Checks.{HoldAll}
use Rattle.ir_holds.specs.declared.held.HeldBoxes.{HeldBoxes}
use Rattle.ir_holds.specs.declared.span.Span.{Span}
use Rattle.ir_run_picture.specs.Brief.{AreRunBoxes}
use Rattle.ir_run_picture.specs.Spans.{IsSpanOfBox}
use Rattle.ir_run_picture.specs.Held.{HaveHeld}

-- boxes that hold are those of a run, if their events and steps are
pub held_boxes_are_of_run : (f : FittedTrace) (events : List EventBox) (spans : List Span) (h : HeldBoxes) → AreRunBoxes f events → ArePaired (IsSpanOfBox f) events spans
    → HoldAll f.recorded events spans h → HaveHeld f h.boxes.items h.ends.items
held_boxes_are_of_run f events spans h are go hold = (
  spans,
  record {
    all = subst (AreRunBoxes f) (sym hold.same) are;
    go = record {
      size = go.size ∙ ap (λ (es : List EventBox). length es) (sym hold.same) ∙ length_of_map (λ (b : PlacedBox). b.events) h.boxes.items;
      each = λ k b s at there. go.each k b.events s
          (subst (λ (es : List EventBox). slice_get es k ≡ Some b.events) hold.same (slice_get_of_map (λ (x : PlacedBox). x.events) h.boxes.items k b at)) there;
    };
    places = hold.places;
    levels = hold.levels;
  },
)

pub held_boxes_of_run : (f : FittedTrace) (r : Recorded) (events : List EventBox) (spans : List Span) (h : HeldBoxes) → r ≡ f.recorded
    → AreRunBoxes f events → ArePaired (IsSpanOfBox f) events spans → HoldAll r events spans h → HaveHeld f h.boxes.items h.ends.items
held_boxes_of_run f r events spans h same are go hold =
    held_boxes_are_of_run f events spans h are go (subst (λ (q : Recorded). HoldAll q events spans h) same hold)
