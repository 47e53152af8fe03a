use Rattle.std.proofs.Common.{◌≡◌, drop}
use Rattle.ir_state_store.specs.Table.{threads_at, all_over}
use Rattle.ir_state_store.proofs.table.Table.all_over.Given as goal

abbrev pub invariant-loop-n : goal.invariant-loop-n
invariant-loop-n l = all_over (threads_at l.self.items (drop l.n-index l.numbers)) ≡ all_over (threads_at l.self.items l.numbers)
