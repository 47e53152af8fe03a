-- What is looked at of boxes.
use Rattle.std.specs.Prelude.{◌≡◌, ℕ, ◌+◌, max, List}
use Rattle.ir_picture.specs.Places.{IsLeastAbove}
use Rattle.ir_picture.specs.declared.placed_box.Point.{Point}
use Rattle.ir_picture.specs.declared.placed_box.PlacedBox.{PlacedBox}
use Rattle.ir_trace.specs.Recorded.{Recorded}
use Rattle.ir_picture.specs.Placing.{events_of_all}
use Rattle.ir_picture.specs.declared.event_box.EventBox.{EventBox}
use Rattle.ir_holds.specs.Spans.{AreRows}
use Rattle.ir_holds.specs.Held.{IsLeastFrom, MarkedBefore, ComesFrom, AreHeldAt, rows_in}
use Rattle.ir_holds.specs.declared.held.HeldBoxes.{HeldBoxes}
use Rattle.ir_holds.specs.declared.spot.Spot.{Spot}
use Rattle.ir_holds.specs.declared.span.Span.{Span}

-- a box that goes so is as near as it can be there, where what it needs ends left of a place, and it is this long
pub record IsSpot (boxes : List PlacedBox) (spans : List Span) (own : Span) (needed : Point) (long : ℕ) (s : Spot) : Type 0 where
  pub free : ℕ
  pub of_marks : IsLeastAbove 0 (MarkedBefore boxes spans own.thread own.first) free
  pub start_x : s.start.x ≡ max free needed.x
  pub came : IsLeastFrom (own.first + 1) (ComesFrom boxes spans own.thread own.first) s.came
  pub start_u : s.start.u ≡ max s.came needed.u
  pub end_x : IsLeastAbove (s.start.x + long) (MarkedBefore boxes spans own.thread own.last) s.end.x
  pub end_u : IsLeastFrom s.start.u (ComesFrom boxes spans own.thread own.last) s.end.u

-- boxes that have these events and go so, with their places and rows, and the ends of their threads
pub record HoldAll (r : Recorded) (events : List EventBox) (spans : List Span) (h : HeldBoxes) : Type 0 where
  pub same : events_of_all h.boxes.items ≡ events
  pub levels : AreRows spans (rows_in h.boxes.items)
  pub places : AreHeldAt r h.boxes.items spans h.ends.items
