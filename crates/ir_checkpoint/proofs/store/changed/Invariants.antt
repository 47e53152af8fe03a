use Rattle.std.proofs.Common.{◌≡◌, ◌++◌, drop}
use Rattle.ir_checkpoint.specs.Store.{in_force, changed}
use Rattle.ir_checkpoint.specs.Pages.{all_pages}
use Rattle.ir_checkpoint.proofs.store.changed.Given as goal

abbrev pub invariant-loop-place : goal.invariant-loop-place
invariant-loop-place l = l.pages.items ++ changed l.number (drop l.place (all_pages l.threads)) (drop l.place (in_force l.entries)) ≡ changed l.number (all_pages l.threads) (in_force l.entries)
