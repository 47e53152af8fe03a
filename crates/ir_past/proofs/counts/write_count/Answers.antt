use Rattle.std.proofs.Common.{List, length, ap, arith}
use Rattle.ir_trace.specs.Recorded.{RecordedThread}
use Rattle.ir_past.specs.Past.{write_entries}
use Rattle.ir_past.proofs.Totals.{total_if_all_counted}
use Rattle.ir_past.proofs.counts.write_count.Goals as goal

pub returns : goal.returns
returns c = total_if_all_counted (λ (t : RecordedThread). write_entries t.events) c.args.trace.now.threads c.loop-thread.thread-index c.loop-thread.count _
    (omega (arith, c.loop-thread-test.false, ap (λ (ts : List RecordedThread). length ts) c.threads-thread-items.ensures.value))
    c.loop-thread.invariant.total
