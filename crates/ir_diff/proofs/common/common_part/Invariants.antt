use Rattle.ir_diff.specs.Progress.{IsBuiltTable, left_over}
use Rattle.ir_diff.proofs.common.common_part.Given as goal

abbrev pub invariant-passes : goal.invariant-passes
invariant-passes l = IsBuiltTable l.a l.b l.part.items

abbrev pub decreases-passes : goal.decreases-passes
decreases-passes l = left_over l.a l.part.items
