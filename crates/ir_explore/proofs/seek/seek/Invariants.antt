use Rattle.std.proofs.Common.{◌-◌, ◌≤◌}
use Rattle.ir_explore.proofs.seek.seek.Given as goal

abbrev pub invariant-wider : goal.invariant-wider
invariant-wider g l = l.switches ≤ l.most

abbrev pub decreases-wider : goal.decreases-wider
decreases-wider g l = l.most - l.switches
