-- Runs that lead to the states of a guest's graph.
use Rattle.std.specs.Prelude.{◌≡◌, ℕ, List, Some, slice_get}
use Rattle.ir_runs.specs.Run.{State, Step, end}
use Rattle.ir_thread.specs.State.{ThreadState}
use Rattle.ir_world.specs.Sources.{Source}
use Rattle.ir_state_store.specs.Nodes.{SourcedFlat}
use Rattle.ir_graph.specs.Setup.{Setup, setup_start}
use Rattle.ir_graph.specs.Plain.{full_by, full_of, IsAnsweredRun, LooksAlike}

-- where a guest's runs begin, each thread with the highest budget, beside what answers it
abbrev pub beginning : Setup → State (ThreadState × Source)
beginning x = full_of (setup_start x)

-- a run of this guest from its start, each of whose calls is answered by the thread's source, ends in this state
pub record IsReached (x : Setup) (s : SourcedFlat) : Type 0 where
  pub like : LooksAlike (setup_start x).flat s.flat
  pub steps : List Step
  pub answered : IsAnsweredRun x.guest.code (beginning x) steps
  pub ends : full_of s ≡ end (full_by x.guest.code) (beginning x) steps

-- each of these states is reached
abbrev pub AllReached : Setup → List SourcedFlat → Type 0
AllReached x states = (v : ℕ) (s : SourcedFlat) → slice_get states v ≡ Some s → IsReached x s
