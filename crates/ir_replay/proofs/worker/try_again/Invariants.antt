use Rattle.std.proofs.Common.{◌≡◌}
use Rattle.ir_replay.specs.Workers.{IsWorkerReady}
use Rattle.ir_replay.proofs.worker.try_again.Given as goal

abbrev pub invariant-looks : goal.invariant-looks
invariant-looks g l = record {
  ready : IsWorkerReady l.weave.table.shared.table_id l.weave.table.shared.key l.target l.worker;
  same : l.worker.thread ≡ l.fn.worker.thread;
}

abbrev pub decreases-looks : goal.decreases-looks
decreases-looks g l = l.patience.looks
