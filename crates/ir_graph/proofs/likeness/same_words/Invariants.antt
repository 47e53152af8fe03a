use Rattle.std.proofs.Common.{◌≡◌, ℕ, ◌<◌}
use Rattle.std.specs.List.{slice_index_or}
use Rattle.ir_object.specs.Empty.{empty}
use Rattle.ir_graph.proofs.likeness.same_words.Given as goal

abbrev pub invariant-loop-o : goal.invariant-loop-o
invariant-loop-o l = (o : ℕ) → o < l.o → (slice_index_or l.first o empty).words ≡ (slice_index_or l.second o empty).words
