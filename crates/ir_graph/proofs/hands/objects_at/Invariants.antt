use Rattle.std.proofs.Common.{◌≡◌, take}
use Rattle.ir_state_store.specs.Nodes.{cells_at}
use Rattle.ir_graph.proofs.hands.objects_at.Given as goal

abbrev pub invariant-loop-spot : goal.invariant-loop-spot
invariant-loop-spot l = l.objects.items ≡ cells_at l.flats.shared.words (take l.spot-index l.spots)
