use Rattle.ir_coherence.proofs.Breaks.{CountsFirst}
use Rattle.ir_coherence.proofs.counting.count_entries.Given as goal

abbrev pub invariant-loop-thread : goal.invariant-loop-thread
invariant-loop-thread l = CountsFirst l.trace l.thread-index l.counts
