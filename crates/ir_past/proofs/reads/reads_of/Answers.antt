use Rattle.std.proofs.Common.{◌∙◌, arith}
use Rattle.ir_past.proofs.ReadTables.{has_reads_at_start, reads_to_end_readers}
use Rattle.ir_past.proofs.reads.reads_of.Goals as goal

pub loop-thread-init : goal.loop-thread-init
loop-thread-init c = has_reads_at_start c.args.trace.now c.in_ok-reads.reads (c.in_ok-reads.ensures.objects ∙ c.objects.ensures.value)
    c.in_ok-reads.ensures.none

pub returns : goal.returns
returns c = reads_to_end_readers c.args.trace.now c.loop-thread.thread c.loop-thread.reads
    (omega (arith, c.loop-thread-test.false, c.loop-thread.auto.thread-end, c.thread_count-thread-end.ensures)) c.loop-thread.invariant
