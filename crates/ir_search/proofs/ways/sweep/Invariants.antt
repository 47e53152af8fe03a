use Rattle.ir_search.proofs.Marked.{Sweeping}
use Rattle.ir_search.proofs.ways.sweep.Given as goal

abbrev pub invariant-loop-k : goal.invariant-loop-k
invariant-loop-k g l = Sweeping (g.S.Successors.shape l.graph).noted l.threads l.fn.marks l.marks l.changed l.k
