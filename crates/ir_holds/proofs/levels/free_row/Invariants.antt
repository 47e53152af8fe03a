use Rattle.std.specs.Prelude.{ℕ, ◌<◌, length}
use Rattle.ir_holds.specs.Spans.{IsTaken}
use Rattle.ir_holds.proofs.levels.free_row.Given as goal

abbrev pub invariant-loop-row : goal.invariant-loop-row
invariant-loop-row l = (z : ℕ) → z < l.row → IsTaken l.spans l.rows (length l.rows) l.own z
