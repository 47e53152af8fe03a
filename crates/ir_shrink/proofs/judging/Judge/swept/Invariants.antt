use Rattle.std.proofs.Common.{◌≤◌}
use Rattle.ir_shrink.specs.Judging.{IsKeptOf}
use Rattle.ir_shrink.specs.Shrinking.{goal_of}
use Rattle.ir_shrink.proofs.judging.Judge.swept.Given as goal

abbrev pub invariant-places : goal.invariant-places
invariant-places g l = record {
  kept : IsKeptOf (goal_of l.self.image.now l.self.plan.now) l.kept;
  fewer : l.kept.switches ≤ l.fn.kept.switches;
}
