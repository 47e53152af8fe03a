use Rattle.std.proofs.Common.{◌≡◌, length}
use Rattle.std.specs.Prelude.{drop}
use Rattle.ir_graph.specs.Hand.{with_items}
use Rattle.ir_graph.proofs.hands.put_spots.Given as goal

abbrev pub invariant-loop-p : goal.invariant-loop-p
invariant-loop-p l = record {
  size : length l.objects ≡ length l.fn.objects;
  put : with_items l.objects (drop l.p l.numbers) (drop l.p l.spots) ≡ with_items l.fn.objects l.numbers l.spots;
}
