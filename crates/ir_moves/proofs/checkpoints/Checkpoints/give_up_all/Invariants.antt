use Rattle.ir_moves.specs.Checkpoints.{AreCheckpoints}
use Rattle.ir_moves.proofs.checkpoints.Checkpoints.give_up_all.Given as goal

abbrev pub invariant-each : goal.invariant-each
invariant-each l = AreCheckpoints l.fitted (record { asked = l.self-inside.asked; passed = l.self-inside.passed })
