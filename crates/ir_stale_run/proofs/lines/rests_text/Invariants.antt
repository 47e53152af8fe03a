use Rattle.std.proofs.Common.{◌≡◌, ◌++◌, length}
use Rattle.ir_past.specs.Past.{write_count}
use Rattle.ir_past.specs.Lines.{count_line}
use Rattle.ir_stale_run.specs.Lines.{rows_kept, first_lines}
use Rattle.ir_stale_run.proofs.lines.rests_text.Given as goal

abbrev pub invariant-loop-i : goal.invariant-loop-i
invariant-loop-i l = l.text.items ≡ count_line (rows_kept l.rests (length l.rests)) (write_count l.fitted.recorded) ++ first_lines l.fitted l.rows l.rests l.i
