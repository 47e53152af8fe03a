use Rattle.std.proofs.Common.{◌≡◌, ◌++◌, false, drop}
use Rattle.ir_text.specs.Buffered.{Buffered}
use Rattle.ir_picture.specs.Numbers.{rows_from, box_row}
use Rattle.ir_picture.proofs.data.write_box_rows.Given as goal

abbrev pub invariant-loop-number : goal.invariant-loop-number
invariant-loop-number g l = record {
  text :
      Buffered (g.O.Sink.written l.fn.out) (g.O.Sink.written l.out) (l.text.items ++ rows_from (box_row l.trace) l.number (drop l.number l.boxes))
      (l.fn.text.items ++ rows_from (box_row l.trace) 0 l.boxes);
  works : g.O.Sink.broken l.out ≡ false;
}
