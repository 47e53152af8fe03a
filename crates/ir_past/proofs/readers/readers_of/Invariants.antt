use Rattle.ir_past.specs.Progress.{ReadBefore}
use Rattle.ir_past.proofs.readers.readers_of.Given as goal

abbrev pub invariant-loop-thread : goal.invariant-loop-thread
invariant-loop-thread l = ReadBefore l.trace l.object l.version l.thread 0 l.places.items
