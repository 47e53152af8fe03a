use Rattle.std.proofs.Common.{◌+◌, ◌*◌, ◌≤◌, length}
use Rattle.ir_thread.specs.State.{most_events}
use Rattle.ir_trace.proofs.writer.thread_length.Given as goal

abbrev pub invariant-loop-event : goal.invariant-loop-event
invariant-loop-event l = (l.length ≤ 17 + 10 * l.event-index) × (length l.event-items ≤ most_events)
