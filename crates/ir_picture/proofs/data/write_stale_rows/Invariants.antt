use Rattle.std.proofs.Common.{◌≡◌, ◌++◌, false, drop}
use Rattle.ir_text.specs.Buffered.{Buffered}
use Rattle.ir_picture.specs.Numbers.{rows_from, stale_row}
use Rattle.ir_picture.proofs.data.write_stale_rows.Given as goal

abbrev pub invariant-loop-number : goal.invariant-loop-number
invariant-loop-number g l = record {
  text :
      Buffered (g.O.Sink.written l.fn.out) (g.O.Sink.written l.out) (l.text.items ++ rows_from stale_row l.number (drop l.number l.rows))
      (l.fn.text.items ++ rows_from stale_row 0 l.rows);
  works : g.O.Sink.broken l.out ≡ false;
}
