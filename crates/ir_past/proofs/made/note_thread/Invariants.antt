use Rattle.ir_past.specs.Progress.{Makes}
use Rattle.ir_past.proofs.made.note_thread.Given as goal

abbrev pub invariant-loop-event : goal.invariant-loop-event
invariant-loop-event l = Makes l.trace l.thread l.event l.makers
