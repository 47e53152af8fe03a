use Rattle.std.proofs.Common.{◌≡◌, Some}
use Rattle.std.specs.Prelude.{slice_get}
use Rattle.ir_state_store.specs.Hashes.{PassesOver}
use Rattle.ir_state_store.proofs.table.find.Given as goal

abbrev pub invariant-loop-steps : goal.invariant-loop-steps
invariant-loop-steps l = PassesOver l.index l.hash l.steps (λ n. slice_get l.rows.items n ≡ Some (l.thread, l.source))
