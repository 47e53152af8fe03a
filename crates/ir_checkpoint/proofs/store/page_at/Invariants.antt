use Rattle.std.proofs.Common.{◌≡◌, drop, slice_index_or}
use Rattle.ir_checkpoint.specs.Store.{in_force, blank}
use Rattle.ir_checkpoint.proofs.store.page_at.Given as goal

abbrev pub invariant-loop-entry : goal.invariant-loop-entry
invariant-loop-entry l = slice_index_or (in_force (drop l.entry-index l.entries)) l.place blank ≡ slice_index_or (in_force l.entries) l.place blank
