use Rattle.std.proofs.Common.{◌<◌, ◌+◌}
use Rattle.ir_timeline.specs.Hand.{IsInHand}
use Rattle.ir_timeline.proofs.Searches.{NoHitBelow}
use Rattle.ir_timeline.proofs.searching.hit_below.Given as goal

abbrev pub invariant-windows : goal.invariant-windows
invariant-windows g l = record {
  hand : IsInHand l.fitted l.hand;
  within : l.to < l.position;
  none : NoHitBelow l.fitted l.points l.t (l.to + 1) l.position;
}

abbrev pub decreases-windows : goal.decreases-windows
decreases-windows g l = l.to
