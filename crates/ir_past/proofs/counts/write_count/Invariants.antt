use Rattle.std.proofs.Common.{◌≡◌, ◌≤◌, ◌+◌, ◌*◌, drop}
use Rattle.std.specs.List.{sum_by}
use Rattle.ir_thread.specs.State.{most_events}
use Rattle.ir_trace.specs.Recorded.{RecordedThread}
use Rattle.ir_past.specs.Past.{write_entries, write_count}
use Rattle.ir_past.proofs.counts.write_count.Given as goal

-- what is counted, and what is left
abbrev pub invariant-loop-thread : goal.invariant-loop-thread
invariant-loop-thread l = record {
  total :
      l.count + sum_by (λ (t : RecordedThread). write_entries t.events) (drop l.thread-index l.trace.threads) ≡ write_count l.trace;
  few : l.count ≤ l.thread-index * most_events;
}
