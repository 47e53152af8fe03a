use Rattle.std.proofs.Common.{◌≡◌, ◌≤◌}
use Rattle.ir_stale_run.specs.Lines.{rows_kept}
use Rattle.ir_stale_run.proofs.lines.kept_of.Given as goal

abbrev pub invariant-loop-i : goal.invariant-loop-i
invariant-loop-i l = record {
  count : l.kept ≡ rows_kept l.rests l.i;
  few : l.kept ≤ l.i;
}
