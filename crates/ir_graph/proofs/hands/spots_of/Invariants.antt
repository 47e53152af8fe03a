use Rattle.std.proofs.Common.{◌≡◌, Some, take}
use Rattle.std.specs.Prelude.{slice_get}
use Rattle.ir_graph.specs.Hand.{AllPairs, IsAtSpot}
use Rattle.ir_state_store.specs.Nodes.{SourcedFlat}
use Rattle.ir_graph.proofs.hands.spots_of.Given as goal

abbrev pub invariant-loop-number : goal.invariant-loop-number
invariant-loop-number l = (s : SourcedFlat) → slice_get l.flats.items l.node ≡ Some s
    → AllPairs (IsAtSpot l.flats.shared.words s.flat.objects) (take l.number-index l.numbers) l.spots.items
