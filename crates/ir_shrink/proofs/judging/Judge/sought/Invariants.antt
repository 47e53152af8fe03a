use Rattle.std.proofs.Common.{◌<◌, ℕ}
use Rattle.ir_shrink.specs.Shrinking.{goal_of, IsNoneBetterAt}
use Rattle.ir_shrink.proofs.judging.Judge.sought.Given as goal

-- nothing was better at the places so far
abbrev pub invariant-places : goal.invariant-places
invariant-places g l = (place : ℕ) → place < l.place
    → IsNoneBetterAt (goal_of l.self.image.now l.self.plan.now) l.kept.items.items l.kept.switches place 1
