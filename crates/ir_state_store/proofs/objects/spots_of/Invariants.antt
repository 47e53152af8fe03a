use Rattle.std.proofs.Common.{◌≡◌, take}
use Rattle.ir_state_store.specs.Nodes.{cells_at, HaveWords}
use Rattle.ir_state_store.specs.Table.{KeepsNumbers}
use Rattle.ir_state_store.proofs.objects.spots_of.Given as goal

abbrev pub invariant-loop-object : goal.invariant-loop-object
invariant-loop-object l = record {
  keeps : KeepsNumbers l.fn.words l.words;
  within : HaveWords l.words l.spots.items;
  found : cells_at l.words l.spots.items ≡ take l.object-index l.objects;
}
