use Rattle.std.proofs.Common.{◌<◌, ◌≤◌, ◌-◌, length}
use Rattle.ir_graph.proofs.Beside.{RunsBeside}
use Rattle.ir_graph.proofs.rest.run_thread.Given as goal

abbrev pub invariant-private : goal.invariant-private
invariant-private l = record {
  runs : RunsBeside l.fn.flat l.fn.source l.flat l.source l.thread l.taken;
  thread : l.thread < length l.flat.threads;
  within : l.taken ≤ l.limit;
}

abbrev pub decreases-private : goal.decreases-private
decreases-private l = l.limit - l.taken
