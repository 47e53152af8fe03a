use Rattle.std.proofs.Common.{◌≤◌, ◌-◌}
use Rattle.ir_weave.specs.Standing.{flat_in, positions}
use Rattle.ir_timeline.specs.Hand.{IsInHand}
use Rattle.ir_timeline.proofs.Searches.{NoHitAbove}
use Rattle.ir_timeline.proofs.searching.hit_above.Given as goal

abbrev pub invariant-stretches : goal.invariant-stretches
invariant-stretches g l = record {
  hand : IsInHand l.fitted l.hand;
  above : positions (flat_in l.fitted l.fn.hand.state) l.t ≤ positions (flat_in l.fitted l.hand.state) l.t;
  none : NoHitAbove l.fitted l.points l.t (positions (flat_in l.fitted l.fn.hand.state) l.t) (positions (flat_in l.fitted l.hand.state) l.t);
}

abbrev pub decreases-stretches : goal.decreases-stretches
decreases-stretches g l = l.last - positions (flat_in l.fitted l.hand.state) l.t
