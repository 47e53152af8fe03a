use Rattle.std.proofs.Common.{◌≡◌, ℕ, ◌<◌, [], length}
use Rattle.std.specs.List.{slice_index_or}
use Rattle.ir_events.proofs.walk.empty_lists.Given as goal

abbrev pub invariant-loop-t : goal.invariant-loop-t
invariant-loop-t l = record {
  size : length l.lists.items ≡ l.t;
  empty : (u : ℕ) → u < l.t → slice_index_or l.lists.items u [] ≡ [];
}
