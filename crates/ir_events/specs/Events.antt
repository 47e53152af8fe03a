-- The pc of the step that logs each event of a trace.
use Rattle.std.specs.Prelude.{◌≡◌, ◌<◌, ℕ, List, [], length, slice_index}
use Rattle.std.specs.List.{slice_index_or}
use Rattle.ir_runs.specs.Run.{Step}
use Rattle.ir_trace.specs.Recorded.{recorded_thread}
use Rattle.ir_fit.specs.Fit.{FittedTrace}
use Rattle.ir_fit.specs.Placed.{placed_at, placed_of}
use Rattle.ir_cut.specs.Positions.{EachRun, thread_at}

-- for each event of thread t, in order, how many steps the thread takes before the one that logs it
abbrev pub entries_of : FittedTrace → ℕ → List ℕ
entries_of f t = (placed_at (placed_of f) t).entries

-- how many steps thread t takes before the one that logs its event i
abbrev pub event_entry : FittedTrace → ℕ → ℕ → ℕ
event_entry f t i = slice_index (entries_of f t) i

-- the pc of thread t of the run before the step that logs its event i
abbrev pub pc_of : FittedTrace → List Step → ℕ → ℕ → ℕ
pc_of f run t i = (thread_at f run t (event_entry f t i)).core.pc

-- a pc for each event of thread t: that of its step in each run with the trace
pub record AreThreadPcs (f : FittedTrace) (t : ℕ) (pcs : List ℕ) : Type 0 where
  pub size : length pcs ≡ length (recorded_thread f.recorded t).events
  pub each : (i : ℕ) → i < length pcs → EachRun f (λ run. slice_index pcs i ≡ pc_of f run t i)

-- such a list for each thread of the guest
pub record ArePcs (f : FittedTrace) (lists : List (List ℕ)) : Type 0 where
  pub size : length lists ≡ length f.guest.entries
  pub each : (t : ℕ) → t < length f.guest.entries → AreThreadPcs f t (slice_index_or lists t [])
