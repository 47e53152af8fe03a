use Rattle.std.proofs.Common.{arith}
use Rattle.ir_past.proofs.Rows.{rows_to_end_are_stale}
use Rattle.ir_past.proofs.stale.stale_writes.Goals as goal

pub returns : goal.returns
returns c = rows_to_end_are_stale c.args.trace.now c.loop-thread.thread c.loop-thread.rows.items
    (omega (arith, c.loop-thread-test.false, c.loop-thread.auto.thread-end, c.thread_count-thread-end.ensures)) c.loop-thread.invariant
