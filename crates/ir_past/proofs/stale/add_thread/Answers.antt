use Rattle.std.proofs.Common.{◌≤◌, length, arith}
use Rattle.ir_trace.specs.Recorded.{recorded_thread}
use Rattle.ir_past.proofs.Rows.{has_rows_next_thread}
use Rattle.ir_past.proofs.stale.add_thread.Goals as goal

pub returns : goal.returns
returns c =
    let all : length (recorded_thread c.args.trace.now c.args.thread).events ≤ c.loop-event.event = omega (
      arith,
      c.loop-event-test.false,
      c.loop-event.auto.event-end,
      c.events_of.ensures.count,
      c.events_of.ensures.few,
    ) in
    has_rows_next_thread c.args.trace.now c.args.thread c.loop-event.event c.loop-event.rows.items all c.loop-event.invariant.rows
