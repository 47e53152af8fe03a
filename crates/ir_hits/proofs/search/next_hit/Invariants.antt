use Rattle.std.proofs.Common.{◌≡◌, ◌≤◌, ◌-◌, suc, length}
use Rattle.ir_cut.specs.Positions.{EachRun}
use Rattle.ir_weave.specs.Standing.{StandsAtCut, flat_in, positions}
use Rattle.ir_hits.specs.Hits.{NoneWithin}
use Rattle.ir_hits.proofs.search.next_hit.Given as goal

abbrev pub invariant-steps : goal.invariant-steps
invariant-steps g l = record {
  stands : StandsAtCut l.search.fitted.now (positions (flat_in l.search.fitted.now l.state)) l.state;
  within : positions (flat_in l.search.fitted.now l.state) l.search.t ≤ l.search.to;
  above : positions (flat_in l.search.fitted.now l.fn.state) l.search.t ≤ positions (flat_in l.search.fitted.now l.state) l.search.t;
  none : EachRun l.search.fitted.now (λ run. NoneWithin l.search.fitted.now run l.search.points.now l.search.t (suc (positions (flat_in l.search.fitted.now l.fn.state) l.search.t))
      (suc (positions (flat_in l.search.fitted.now l.state) l.search.t)));
  size : length l.notes ≡ length l.search.points.now;
}

abbrev pub decreases-steps : goal.decreases-steps
decreases-steps g l = l.search.to - positions (flat_in l.search.fitted.now l.state) l.search.t
