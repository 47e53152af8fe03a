use Rattle.ir_past.specs.Progress.{HasReads}
use Rattle.ir_past.proofs.reads.note_thread.Given as goal

abbrev pub invariant-loop-event : goal.invariant-loop-event
invariant-loop-event l = HasReads l.trace l.thread l.event l.reads
