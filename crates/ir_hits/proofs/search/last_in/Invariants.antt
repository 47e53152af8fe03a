use Rattle.std.proofs.Common.{◌≡◌, ◌≤◌, ◌-◌, ◌+◌, length}
use Rattle.ir_cut.specs.Positions.{EachRun}
use Rattle.ir_weave.specs.Standing.{StandsAtCut, flat_in, positions}
use Rattle.ir_hits.specs.Searching.{IsLastFrom, window_start}
use Rattle.ir_hits.proofs.search.last_in.Given as goal

abbrev pub invariant-hits : goal.invariant-hits
invariant-hits g l = record {
  stands : StandsAtCut l.search.fitted.now (positions (flat_in l.search.fitted.now l.state)) l.state;
  within : positions (flat_in l.search.fitted.now l.state) l.search.t ≤ l.search.to;
  above : positions (flat_in l.search.fitted.now l.fn.state) l.search.t ≤ positions (flat_in l.search.fitted.now l.state) l.search.t;
  last : EachRun l.search.fitted.now (λ run. IsLastFrom l.search.fitted.now run l.search.points.now l.search.t (window_start (positions (flat_in l.search.fitted.now l.fn.state) l.search.t))
      (positions (flat_in l.search.fitted.now l.state) l.search.t + 1) l.found);
  size : length l.notes ≡ length l.search.points.now;
}

abbrev pub decreases-hits : goal.decreases-hits
decreases-hits g l = l.search.to - positions (flat_in l.search.fitted.now l.state) l.search.t
