use Rattle.ir_hits.specs.Passing.{NoneWatches}
use Rattle.ir_hits.proofs.marking.some_watches.Given as goal

abbrev pub invariant-loop-i : goal.invariant-loop-i
invariant-loop-i l = NoneWatches l.t l.points l.i
