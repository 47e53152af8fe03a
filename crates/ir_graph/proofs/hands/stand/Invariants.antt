use Rattle.std.proofs.Common.{◌≡◌, Some, take}
use Rattle.std.specs.Prelude.{slice_get}
use Rattle.ir_graph.specs.Hand.{AllPairs, IsAtSpot}
use Rattle.ir_state_store.specs.Nodes.{SourcedFlat}
use Rattle.ir_graph.proofs.hands.stand.Given as goal

abbrev pub invariant-loop-p : goal.invariant-loop-p
invariant-loop-p l = (s : SourcedFlat) → slice_get l.flats.items l.node ≡ Some s
    → AllPairs (IsAtSpot l.flats.shared.words s.flat.objects) (take l.p l.numbers) (take l.p l.spots)
