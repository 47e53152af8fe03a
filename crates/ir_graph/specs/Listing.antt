-- The list of different outcomes.
use Rattle.std.specs.Prelude.{◌≡◌, ℕ, ◌<◌, ◌≤◌, List, Some, slice_get}
use Rattle.ir_runs.specs.Run.{IsDone}
use Rattle.ir_flat.specs.Flat.{Flat, machine, tables}
use Rattle.ir_state_store.specs.Nodes.{SourcedFlat}
use Rattle.ir_graph.specs.Outcomes.{run_outcome}

-- one of the listed nodes has the outcome of this state
pub record HasOutcome (states : List SourcedFlat) (listed : List ℕ) (f : Flat) : Type 0 where
  pub place : ℕ
  pub node : ℕ
  pub state : SourcedFlat
  pub stands : slice_get listed place ≡ Some node
  pub at : slice_get states node ≡ Some state
  pub same : run_outcome (tables state.flat) ≡ run_outcome (tables f)

-- Of the nodes below `until` where all threads are done, the first with each outcome is listed.
pub record AreOutcomes (states : List SourcedFlat) (until : ℕ) (listed : List ℕ) : Type 0 where
  pub done : (i v : ℕ) → slice_get listed i ≡ Some v
      → (v < until) × ((s : SourcedFlat) → slice_get states v ≡ Some s → IsDone (machine s.flat) (tables s.flat))
  pub all : (v : ℕ) (s : SourcedFlat) → v < until → slice_get states v ≡ Some s → IsDone (machine s.flat) (tables s.flat)
      → (h : HasOutcome states listed s.flat) × (h.node ≤ v)
  pub different : (i j v w : ℕ) (s u : SourcedFlat) → slice_get listed i ≡ Some v → slice_get listed j ≡ Some w → slice_get states v ≡ Some s
      → slice_get states w ≡ Some u → run_outcome (tables s.flat) ≡ run_outcome (tables u.flat) → i ≡ j
  pub rising : (i j v w : ℕ) → slice_get listed i ≡ Some v → slice_get listed j ≡ Some w → i < j → v < w
