use Rattle.std.proofs.Common.{◌≡◌, ◌+◌, ◌++◌, ◌<◌, ◌≤◌, List, Some, length, get_or}
use Rattle.std.specs.Prelude.{slice_get}
use Rattle.ir_search.specs.declared.origin.Origin.{Origin}
use Rattle.ir_search.specs.Origins.{first_origin}
use Rattle.ir_outcomes.specs.Path.{IsPathTo}
use Rattle.ir_outcomes.proofs.path.path_to.Given as goal

abbrev pub invariant-back : goal.invariant-back
invariant-back l = record {
  within : l.at < length l.origins;
  path : (more : List Origin) → IsPathTo l.origins l.at more → IsPathTo l.origins l.node (l.path.items ++ more);
  few : (n m : Origin) → slice_get l.origins l.node ≡ Some n → slice_get l.origins l.at ≡ Some m → length l.path.items + m.level ≤ n.level;
}

abbrev pub decreases-back : goal.decreases-back
decreases-back l = (get_or l.origins l.at first_origin).level
