use Rattle.std.proofs.Common.{◌≡◌, ◌+◌, drop}
use Rattle.ir_checkpoint.specs.Store.{stored_pages}
use Rattle.ir_checkpoint.proofs.counting.stored.Given as goal

abbrev pub invariant-loop-entry : goal.invariant-loop-entry
invariant-loop-entry l = l.all + stored_pages (drop l.entry-index l.entries) ≡ stored_pages l.entries
