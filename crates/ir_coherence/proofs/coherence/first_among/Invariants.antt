use Rattle.std.proofs.Common.{ℕ, ◌<◌}
use Rattle.ir_trace.specs.Recorded.{recorded_thread}
use Rattle.ir_coherence.specs.Counting.{reads_of, writes_of, NoCause}
use Rattle.ir_coherence.proofs.coherence.first_among.Given as goal

abbrev pub invariant-loop-number : goal.invariant-loop-number
invariant-loop-number l = (t : ℕ) → t < l.number → NoCause (reads_of l.counts) (writes_of l.counts) (recorded_thread l.trace t).events
