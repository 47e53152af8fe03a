use Rattle.ir_past.specs.Progress.{HasReads}
use Rattle.ir_past.proofs.reads.reads_of.Given as goal

abbrev pub invariant-loop-thread : goal.invariant-loop-thread
invariant-loop-thread l = HasReads l.trace l.thread 0 l.reads
