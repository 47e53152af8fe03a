use Rattle.std.proofs.Common.{Bool, List, ◌++◌}
use Rattle.ir_search.specs.Origins.{AreWaysUnder}
use Rattle.ir_outcomes.specs.Path.{ways_of}
use Rattle.ir_outcomes.proofs.path.refusals_to.Given as goal

abbrev pub invariant-back : goal.invariant-back
invariant-back l = record {
  ways : (ways : List Bool) → AreWaysUnder l.table l.left ways → AreWaysUnder l.table l.fn.number (ways ++ ways_of l.refusals.items);
  under : (ways : List Bool) × AreWaysUnder l.table l.left ways;
}

abbrev pub decreases-back : goal.decreases-back
decreases-back l = l.left
