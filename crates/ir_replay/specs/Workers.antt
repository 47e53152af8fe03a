-- Workers, each with its thread at a seat of a table.
use Rattle.std.specs.Prelude.{◌≡◌, ℕ, ◌≤◌, ◌⊎◌, List, []}
use Rattle.atomic_table.specs.Seated.{TableId}
use Rattle.ir_cut.specs.Positions.{cut_of}
use Rattle.ir_weave.specs.Woven.{IsSeated, WasStopped}
use Rattle.ir_weave.specs.declared.plan.Plan.{Plan}
use Rattle.ir_replay.specs.declared.worker.Worker.{Worker}

-- a worker whose thread isn't past its target
pub record IsWorkerReady (id : TableId) (k : Plan) (target : List ℕ) (w : Worker) : Type 0 where
  pub table : w.seat.table_id ≡ id
  pub slots : w.seat.me.1 ≡ []
  pub seated : IsSeated k w.seat.me.0 w.thread
  pub below : w.thread.steps ≤ cut_of target w.thread.number

-- it has gone on
pub record IsWorkerOnWay (id : TableId) (k : Plan) (target : List ℕ) (old new : Worker) : Type 0 where
  pub ready : IsWorkerReady id k target new
  pub number : new.thread.number ≡ old.thread.number
  pub up : old.thread.steps ≤ new.thread.steps

-- it has gone on until it was at its target or wasn't admitted
pub record HasWorked (id : TableId) (k : Plan) (target : List ℕ) (old new : Worker) : Type 0 where
  pub ready : IsWorkerReady id k target new
  pub number : new.thread.number ≡ old.thread.number
  pub up : old.thread.steps ≤ new.thread.steps
  pub rests : (new.thread.steps ≡ cut_of target new.thread.number) ⊎ WasStopped k new.thread.number new.thread.steps
