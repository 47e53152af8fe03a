use Rattle.std.proofs.Common.{◌≡◌, take}
use Rattle.ir_trace.proofs.trace.Trace.copy.Given as goal

abbrev pub invariant-loop-thread : goal.invariant-loop-thread
invariant-loop-thread l = l.threads.items ≡ take l.thread-index l.thread-items
