use Rattle.std.proofs.Common.{◌≡◌}
use Rattle.ir_run_picture.specs.Resting.{first_resting}
use Rattle.ir_run_picture.proofs.keeping.resting_writes.Given as goal

abbrev pub invariant-loop-i : goal.invariant-loop-i
invariant-loop-i l = l.kept.items ≡ first_resting l.boxes l.rows l.rests l.i
