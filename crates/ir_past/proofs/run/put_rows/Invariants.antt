use Rattle.std.proofs.Common.{◌≡◌, false, drop}
use Rattle.ir_past.specs.Lines.{row_lines}
use Rattle.ir_past.proofs.Written.{WrittenTo}
use Rattle.ir_past.proofs.run.put_rows.Given as goal

-- the lines that are written, and those of the other rows
abbrev pub invariant-loop-row : goal.invariant-loop-row
invariant-loop-row g l = record {
  text : WrittenTo (g.O.Sink.written l.fn.out) (g.O.Sink.written l.out) (row_lines (drop l.row-index l.rows)) (row_lines l.rows);
  works : g.O.Sink.broken l.out ≡ false;
}
