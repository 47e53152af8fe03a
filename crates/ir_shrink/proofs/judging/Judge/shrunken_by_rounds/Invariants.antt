use Rattle.std.proofs.Common.{◌≤◌}
use Rattle.ir_shrink.specs.Judging.{IsKeptOf}
use Rattle.ir_shrink.specs.Shrinking.{goal_of}
use Rattle.ir_shrink.proofs.judging.Judge.shrunken_by_rounds.Given as goal

abbrev pub invariant-rounds : goal.invariant-rounds
invariant-rounds g l = record {
  kept : IsKeptOf (goal_of l.self.image.now l.self.plan.now) l.kept;
  fewer : l.kept.switches ≤ l.fn.kept.switches;
}

abbrev pub decreases-rounds : goal.decreases-rounds
decreases-rounds g l = l.kept.switches
