use Rattle.ir_state_store.specs.Hashes.{PassesOver}
use Rattle.ir_state_store.specs.Table.{LooksLike}
use Rattle.ir_state_store.proofs.table.look_for.Given as goal

abbrev pub invariant-loop-steps : goal.invariant-loop-steps
invariant-loop-steps l = PassesOver l.seen l.hash l.steps (λ n. LooksLike l.rows.basis l.rows.items n (l.thread, l.source))
