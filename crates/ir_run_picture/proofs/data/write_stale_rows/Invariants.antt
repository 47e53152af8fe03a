use Rattle.std.proofs.Common.{◌≡◌, ◌++◌, false, drop}
use Rattle.ir_text.specs.Buffered.{Buffered}
use Rattle.ir_picture.specs.Numbers.{rows_from}
use Rattle.ir_run_picture.specs.Numbers.{resting_row}
use Rattle.ir_run_picture.proofs.data.write_stale_rows.Given as goal

abbrev pub invariant-loop-number : goal.invariant-loop-number
invariant-loop-number g l = record {
  text :
      Buffered (g.O.Sink.written l.fn.out) (g.O.Sink.written l.out) (l.text.items ++ rows_from resting_row l.number (drop l.number l.kept))
      (l.fn.text.items ++ rows_from resting_row 0 l.kept);
  works : g.O.Sink.broken l.out ≡ false;
}
