-- Positions of the threads of a guest with the trace of one of its runs.
use Rattle.std.specs.Prelude.{ℕ, List, length, replicate, map}
use Rattle.std.specs.List.{slice_index_or, range_with_len}
use Rattle.ir_runs.specs.Machine.{Machine}
use Rattle.ir_thread.specs.State as thread
use Rattle.ir_flat.specs.Flat.{start_flat, tables, machine}
use Rattle.ir_runs.specs.Run.{State, Step, th, Cut, IsCut, Consistent}
use Rattle.ir_fit.specs.Fit.{FittedTrace, IsRunOf}
use Rattle.ir_trace.specs.Recorded.{recorded_thread}

-- what the guest's threads do
abbrev pub machine_of : FittedTrace → Machine thread.ThreadState
machine_of f = machine (start_flat f.guest f.recorded.budget f.recorded.profile)

-- where its runs start
abbrev pub start_of : FittedTrace → State thread.ThreadState
start_of f = tables (start_flat f.guest f.recorded.budget f.recorded.profile)

-- thread t of the run after k of its steps
abbrev pub thread_at : FittedTrace → List Step → ℕ → ℕ → thread.ThreadState
thread_at f run t k = th (machine_of f) (start_of f) run t k

-- a fact of each complete run of the guest that has the trace
abbrev pub EachRun : FittedTrace → (List Step → Type 0) → Type 0
EachRun f P = (run : List Step) → IsRunOf f.guest f.recorded run → P run

-- the position of each thread; 0 where there is no such thread
abbrev pub cut_of : List ℕ → Cut
cut_of ps t = slice_index_or ps t 0

-- these positions are a consistent cut
abbrev pub IsConsistentCut : FittedTrace → List ℕ → Type 0
IsConsistentCut f ps = EachRun f (λ run. IsCut (machine_of f) (start_of f) run (cut_of ps) × Consistent (machine_of f) (start_of f) run (cut_of ps))

-- how many threads the guest has
abbrev pub threads_of : FittedTrace → ℕ
threads_of f = length f.guest.entries

-- the last position of a thread
abbrev pub last_of : FittedTrace → ℕ → ℕ
last_of f t = (recorded_thread f.recorded t).steps

-- all threads at 0
abbrev pub first_cut : FittedTrace → List ℕ
first_cut f = replicate (threads_of f) 0

-- all threads at their last positions
abbrev pub last_cut : FittedTrace → List ℕ
last_cut f = map (last_of f) (range_with_len 0 (threads_of f))
