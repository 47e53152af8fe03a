use Rattle.std.proofs.Common.{◌≡◌, ◌<◌, ℕ}
use Rattle.std.specs.List.{slice_index_or}
use Rattle.ir_state_store.specs.Table.{no_source, sources_at}
use Rattle.ir_state_store.proofs.table.Table.is_timed.Given as goal

abbrev pub invariant-loop-t : goal.invariant-loop-t
invariant-loop-t l = (u : ℕ) → u < l.t → (slice_index_or (sources_at l.self.items l.numbers) u no_source).ticks ≡ 0
