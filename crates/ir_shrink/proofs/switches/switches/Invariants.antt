use Rattle.std.proofs.Common.{◌≡◌, ◌≤◌, ◌+◌, drop}
use Rattle.std.specs.Prelude.{None}
use Rattle.ir_shrink.proofs.Changing.{changes_from, threads_of_items}
use Rattle.ir_shrink.proofs.switches.switches.Given as goal

abbrev pub invariant-items : goal.invariant-items
invariant-items l = record {
  few : l.count ≤ l.item-index;
  counted : l.count + changes_from l.last (threads_of_items (drop l.item-index l.items)) ≡ changes_from None (threads_of_items l.items);
}
