use Rattle.ir_fit.proofs.ByVersion.{SortedBelow}
use Rattle.ir_fit.proofs.visits.sort_each.Given as goal

abbrev pub invariant-loop-object : goal.invariant-loop-object
invariant-loop-object l = SortedBelow l.object l.fn.lists l.lists
