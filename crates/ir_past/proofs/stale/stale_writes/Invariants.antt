use Rattle.ir_past.specs.Progress.{HasRows}
use Rattle.ir_past.proofs.stale.stale_writes.Given as goal

abbrev pub invariant-loop-thread : goal.invariant-loop-thread
invariant-loop-thread l = HasRows l.trace l.thread 0 l.rows.items
