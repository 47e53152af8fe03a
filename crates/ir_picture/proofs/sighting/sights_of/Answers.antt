use Rattle.std.proofs.Common.{arith}
use Rattle.ir_picture.proofs.Seen.{sights_to_end_are_all}
use Rattle.ir_picture.proofs.sighting.sights_of.Goals as goal

pub returns : goal.returns
returns c = sights_to_end_are_all c.args.trace.now c.args.boxes.now c.loop-thread.thread c.loop-thread.sights.items
    (omega (arith, c.loop-thread-test.false, c.loop-thread.auto.thread-end, c.thread_count-thread-end.ensures)) c.loop-thread.invariant
