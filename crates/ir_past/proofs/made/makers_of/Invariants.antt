use Rattle.ir_past.specs.Progress.{Makes}
use Rattle.ir_past.proofs.made.makers_of.Given as goal

abbrev pub invariant-loop-thread : goal.invariant-loop-thread
invariant-loop-thread l = Makes l.trace l.thread 0 l.makers
