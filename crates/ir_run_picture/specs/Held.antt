-- Where the boxes of a run are: each goes from entering to leaving.
use Rattle.std.specs.Prelude.{List, map}
use Rattle.ir_fit.specs.Fit.{FittedTrace}
use Rattle.ir_opened.specs.Paired.{ArePaired}
use Rattle.ir_picture.specs.declared.placed_box.Point.{Point}
use Rattle.ir_picture.specs.declared.placed_box.PlacedBox.{PlacedBox}
use Rattle.ir_holds.specs.Spans.{AreRows}
use Rattle.ir_holds.specs.Held.{AreHeldAt, rows_in}
use Rattle.ir_holds.specs.declared.span.Span.{Span}
use Rattle.ir_run_picture.specs.Brief.{AreRunBoxes}
use Rattle.ir_run_picture.specs.Spans.{IsSpanOfBox}

-- the boxes of a run with their steps, places and rows, and the ends of its threads
pub record AreHeld (f : FittedTrace) (boxes : List PlacedBox) (spans : List Span) (ends : List Point) : Type 0 where
  pub all : AreRunBoxes f (map (λ (b : PlacedBox). b.events) boxes)
  pub go : ArePaired (λ (b : PlacedBox) (s : Span). IsSpanOfBox f b.events s) boxes spans
  pub places : AreHeldAt f.recorded boxes spans ends
  pub levels : AreRows spans (rows_in boxes)

-- there are steps such that boxes are those of a run
abbrev pub HaveHeld : FittedTrace → List PlacedBox → List Point → Type 0
HaveHeld f boxes ends = (spans : List Span) × AreHeld f boxes spans ends
