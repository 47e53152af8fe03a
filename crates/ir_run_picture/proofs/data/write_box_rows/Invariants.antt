use Rattle.std.proofs.Common.{◌≡◌, ◌++◌, false, drop}
use Rattle.ir_text.specs.Buffered.{Buffered}
use Rattle.ir_picture.specs.Numbers.{rows_from}
use Rattle.ir_run_picture.specs.Numbers.{drawn_row}
use Rattle.ir_run_picture.proofs.data.write_box_rows.Given as goal

abbrev pub invariant-loop-number : goal.invariant-loop-number
invariant-loop-number g l = record {
  text :
      Buffered (g.O.Sink.written l.fn.out) (g.O.Sink.written l.out) (l.text.items ++ rows_from (drawn_row l.fitted) l.number (drop l.number l.drawn))
      (l.fn.text.items ++ rows_from (drawn_row l.fitted) 0 l.drawn);
  works : g.O.Sink.broken l.out ≡ false;
}
