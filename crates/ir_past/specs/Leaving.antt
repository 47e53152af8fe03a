-- What a thread enters it leaves.
use Rattle.std.specs.Prelude.{ℕ, ◌<◌, ◌≤◌, List}
use Rattle.ir_runs.specs.Machine.{Machine, EnteredAt, LeftAt}
use Rattle.ir_runs.specs.declared.access.Access.{Access}
use Rattle.ir_runs.specs.Run.{State, Step, Emits}
use Rattle.ir_runs.specs.Bounds.{IsStart, IsComplete}
use Rattle.ir_thread.specs.State.{thread_machine}
use Rattle.ir_thread.specs.State as thread

-- a step of thread t past its step j leaves object o after such access at version v, and is the first that does
pub record LeavesFirst {T : Type 0} (m : Machine T) (s : State T) (run : List Step) (t j o : ℕ) (a : Access) (v : ℕ) : Type 0 where
  pub leave : ℕ
  pub past : j < leave
  pub leaves : Emits m s run t leave (LeftAt o a v)
  pub first : (k : ℕ) → j < k → Emits m s run t k (LeftAt o a v) → leave ≤ k

-- the law: in each complete run of threads of any code, what a thread enters it leaves, at the version that it found
abbrev pub EntriesLeft : Type 0
EntriesLeft = (code : List ℕ) (s : State thread.ThreadState) → IsStart (thread_machine code) s → (run : List Step)
    → IsComplete (thread_machine code) s run → (t j o : ℕ) (a : Access) (v l : ℕ) → Emits (thread_machine code) s run t j (EnteredAt o a v l)
    → LeavesFirst (thread_machine code) s run t j o a v
