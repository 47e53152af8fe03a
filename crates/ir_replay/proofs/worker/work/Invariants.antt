use Rattle.std.proofs.Common.{◌-◌}
use Rattle.ir_cut.specs.Positions.{cut_of}
use Rattle.ir_replay.specs.Workers.{IsWorkerOnWay}
use Rattle.ir_replay.proofs.worker.work.Given as goal

abbrev pub invariant-steps : goal.invariant-steps
invariant-steps g l = IsWorkerOnWay l.weave.table.shared.table_id l.weave.table.shared.key l.target l.fn.worker l.worker

abbrev pub decreases-steps : goal.decreases-steps
decreases-steps g l = cut_of l.target l.fn.worker.thread.number - l.worker.thread.steps
