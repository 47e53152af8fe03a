-- The workers of a recording by threads.
use Rattle.ir_thread.specs.declared.profile.Profile.{Profile}
use Rattle.std.specs.Prelude.{◌≡◌, ◌≢◌, ℕ, suc, ◌≤◌, List, [], ◌∷◌, ◌++◌, length, vec_capacity, None, ⊤}
use Rattle.std.specs.Global.{Vec}
use Rattle.std.specs.List.{AllByRecursion}
use Rattle.atomic_table.specs.Seated.{TableId}
use Rattle.atomic_table.specs.declared.shared.Seat.{Seat}
use Rattle.ir_image.specs.Guest.{Guest}
use Rattle.ir_thread.specs.State.{most_events, most_output}
use Rattle.ir_thread.specs.State as thread
use Rattle.ir_crew.specs.Rule.{CrewView}
use Rattle.ir_trace.specs.Recorded.{RecordedThread}
use Rattle.ir_trace.specs.Bounds.{IsEvent}
use Rattle.ir_record.specs.Gathered.{IsThreadTrace}
use Rattle.ir_record.specs.declared.by_threads.buffers.Buffers.{Buffers}
use Rattle.ir_record.specs.declared.by_threads.worker.Worker.{Worker}

-- the worker of thread t before its first step
pub record IsNewThread {W : Type 0} (g : Guest) (budget : ℕ) (profile : Profile) (id : TableId) (t : ℕ) (w : Worker W) : Type 0 where
  pub table : w.seat.table_id ≡ id
  pub me : w.seat.me ≡ (record { thread = t; steps = [] } ∷ [], [])
  pub thread : w.thread ≡ thread.start_state g t budget profile
  pub log : w.log ≡ record { events = []; room = most_events }

-- the workers of the threads from t on
abbrev pub AreNew : {W : Type 0} → Guest → ℕ → Profile → TableId → ℕ → List (Worker W) → Type 0
AreNew g budget profile id t [] = ⊤
AreNew g budget profile id t (w ∷ ws) = IsNewThread g budget profile id t w × AreNew g budget profile id (suc t) ws

-- a worker whose thread is done, of a guest with the given number of objects
pub record IsOver {W : Type 0} (profile : Profile) (objects : ℕ) (w : Worker W) : Type 0 where
  pub ended : w.thread.ended ≢ None
  pub events_fit : AllByRecursion (IsEvent profile objects) w.log.events

-- what was recorded of each worker's thread
abbrev pub AreTraces : {W : Type 0} → List (Worker W) → List RecordedThread → Type 0
AreTraces [] [] = ⊤
AreTraces [] (r ∷ rs) = ⊥
AreTraces (w ∷ ws) [] = ⊥
AreTraces (w ∷ ws) (r ∷ rs) = IsThreadTrace w.thread w.log r × AreTraces ws rs

-- an empty list with room for n
pub record IsEmptyFor {A : Type 0} (n : ℕ) (v : Vec A) : Type 0 where
  pub empty : v.items ≡ []
  pub room : n ≤ vec_capacity v

-- n empty buffers, each with room for all that a thread may print
pub record AreOutputBuffers (n : ℕ) (vs : List (Vec ℕ)) : Type 0 where
  pub count : length vs ≡ n
  pub each : AllByRecursion (IsEmptyFor most_output) vs

-- room for what n workers hand back
pub record HasRoomForThread {W : Type 0} (n : ℕ) (b : Buffers W) : Type 0 where
  pub seats : IsEmptyFor n b.seats
  pub traces : IsEmptyFor n b.traces
  pub outputs : IsEmptyFor n b.outputs
  pub bytes : AreOutputBuffers n b.bytes.items
  pub worlds : IsEmptyFor n b.worlds

-- a seat of this table that holds nothing else
pub record IsSeatOf (id : TableId) (s : Seat (Unit {0}) CrewView) : Type 0 where
  pub table : s.table_id ≡ id
  pub empty : s.me.1 ≡ []

-- the tracks of all seats
abbrev pub views_of : List (Seat (Unit {0}) CrewView) → CrewView
views_of [] = []
views_of (s ∷ ss) = s.me.0 ++ views_of ss
