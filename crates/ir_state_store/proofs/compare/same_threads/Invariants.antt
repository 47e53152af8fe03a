use Rattle.std.proofs.Common.{ℕ, ◌<◌}
use Rattle.ir_state_store.specs.Nodes.{MomentsLookSame}
use Rattle.ir_state_store.specs.Table.{beside_at}
use Rattle.ir_state_store.proofs.compare.same_threads.Given as goal

abbrev pub invariant-loop-t : goal.invariant-loop-t
invariant-loop-t l = (t : ℕ) → t < l.t → MomentsLookSame l.table.basis.code (beside_at l.table.items l.first t) (beside_at l.table.items l.second t)
