use Rattle.ir_past.specs.Progress.{ReadBefore}
use Rattle.ir_past.proofs.readers.add_thread.Given as goal

abbrev pub invariant-loop-event : goal.invariant-loop-event
invariant-loop-event l = ReadBefore l.trace l.object l.version l.thread l.event l.places.items
