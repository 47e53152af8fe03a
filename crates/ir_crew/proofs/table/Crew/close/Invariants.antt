use Rattle.std.proofs.Common.{ℕ, ◌<◌}
use Rattle.std.specs.List.{slice_index_or}
use Rattle.std.specs.Slots.{slots_items}
use Rattle.ir_crew.specs.Ends.{IsObjectOf}
use Rattle.ir_object.specs.Empty.{empty}
use Rattle.ir_crew.proofs.table.Crew.close.Given as goal

abbrev pub invariant-loop-o : goal.invariant-loop-o
invariant-loop-o l = (k : ℕ) → k < l.o → IsObjectOf (slots_items l.closed.words) k (slice_index_or l.objects k empty)
