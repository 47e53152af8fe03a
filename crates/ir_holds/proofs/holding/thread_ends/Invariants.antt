use Rattle.std.specs.Prelude.{◌≡◌, ℕ, List, Some, length}
use Rattle.std.specs.List.{slice_get}
use Rattle.ir_picture.specs.declared.placed_box.Point.{Point}
use Rattle.ir_picture.specs.declared.placed_box.PlacedBox.{PlacedBox}
use Rattle.ir_holds.specs.Held.{IsHeldEnd}
use Rattle.ir_holds.specs.Stops.{HoldsMarks}
use Rattle.ir_holds.specs.declared.span.Span.{Span}
use Rattle.ir_holds.proofs.holding.thread_ends.Given as goal

abbrev pub invariant-loop-thread : goal.invariant-loop-thread
invariant-loop-thread l = record {
  size : length l.ends.items ≡ l.thread;
  each : (boxes : List PlacedBox) (spans : List Span) → HoldsMarks boxes spans l.marks → (t : ℕ) (p : Point) → slice_get l.ends.items t ≡ Some p
      → IsHeldEnd l.trace boxes spans t p;
}
