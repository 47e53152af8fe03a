use Rattle.std.proofs.Common.{arith}
use Rattle.ir_past.proofs.Reading.{read_to_end_readers}
use Rattle.ir_past.proofs.readers.readers_of.Goals as goal

pub returns : goal.returns
returns c = read_to_end_readers c.args.trace.now c.args.object c.args.version c.loop-thread.thread c.loop-thread.places.items
    (omega (arith, c.loop-thread-test.false, c.loop-thread.auto.thread-end, c.thread_count-thread-end.ensures)) c.loop-thread.invariant
