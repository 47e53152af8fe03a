use Rattle.std.specs.Prelude.{◌≡◌, ℕ, Some, length, take}
use Rattle.std.specs.List.{slice_get}
use Rattle.ir_picture.specs.Placing.{events_of_all}
use Rattle.ir_picture.specs.declared.placed_box.PlacedBox.{PlacedBox}
use Rattle.ir_holds.specs.Held.{rows_in}
use Rattle.ir_holds.specs.Schedules.{IsNear}
use Rattle.ir_holds.specs.declared.span.Span.{Span}
use Rattle.ir_holds.proofs.holding.boxes_at.Given as goal

abbrev pub invariant-loop-number : goal.invariant-loop-number
invariant-loop-number l = record {
  events : events_of_all l.boxes.items ≡ take l.number l.events;
  rows : rows_in l.boxes.items ≡ take l.number l.rows;
  size : length l.boxes.items ≡ l.number;
  start : (n : ℕ) (b : PlacedBox) (own : Span) → slice_get l.boxes.items n ≡ Some b → slice_get l.spans n ≡ Some own → IsNear own.first b.start;
  end : (n : ℕ) (b : PlacedBox) (own : Span) → slice_get l.boxes.items n ≡ Some b → slice_get l.spans n ≡ Some own → IsNear own.last b.end;
}
