use Rattle.std.proofs.Common.{◌+◌, ◌*◌, ◌≤◌}
use Rattle.ir_thread.specs.State.{most_events}
use Rattle.ir_trace.proofs.writer.written_length.Given as goal

abbrev pub invariant-loop-thread : goal.invariant-loop-thread
invariant-loop-thread l = l.length ≤ 16 + (17 + 10 * most_events) * l.thread-index
