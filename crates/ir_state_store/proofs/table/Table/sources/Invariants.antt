use Rattle.std.proofs.Common.{◌≡◌, take}
use Rattle.ir_state_store.specs.Table.{sources_at}
use Rattle.ir_state_store.proofs.table.Table.sources.Given as goal

abbrev pub invariant-loop-n : goal.invariant-loop-n
invariant-loop-n l = l.sources.items ≡ sources_at l.self.items (take l.n-index l.numbers)
