use Rattle.std.proofs.Common.{length, ap, arith}
use Rattle.ir_trace.specs.Recorded.{Recorded}
use Rattle.ir_run_picture.proofs.Boxed.{run_boxed_to_end}
use Rattle.ir_run_picture.proofs.folding.run_boxes_of.Goals as goal

pub returns : goal.returns
returns c =
    let past = c.loop-thread-test.false in
    let end = c.loop-thread.auto.thread-end in
    let count = c.thread_count-thread-end.ensures in
    let same = ap (λ (r : Recorded). length r.threads) c.trace-trace.ensures.value in
    run_boxed_to_end c.args.fitted.now c.loop-thread.thread c.loop-thread.boxes.items (omega (arith, past, end, count, same)) c.loop-thread.invariant
