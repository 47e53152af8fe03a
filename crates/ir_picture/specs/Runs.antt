-- What the needs of events are in runs.
use Rattle.std.specs.Prelude.{◌≡◌, ℕ, List, map}
use Rattle.ir_runs.specs.Run.{State, Step, IsRun, log}
use Rattle.ir_runs.specs.Bounds.{IsStart}
use Rattle.ir_thread.specs.State.{thread_machine}
use Rattle.ir_thread.specs.State as thread
use Rattle.ir_log.specs.Logging.{label_of}
use Rattle.ir_trace.specs.Recorded.{Recorded, recorded_thread}
use Rattle.ir_picture.specs.Needs.{HasNoCircle}

-- the law: a trace whose logs are those of a run of threads of any code has no circle, since the run logs each event after all that it needs
abbrev pub RunsHaveNoCircle : Type 0
RunsHaveNoCircle = (code : List ℕ) (s : State thread.ThreadState) → IsStart (thread_machine code) s → (run : List Step) → IsRun (thread_machine code) s run
    → (r : Recorded) → ((t : ℕ) → log (thread_machine code) s run t ≡ map label_of (recorded_thread r t).events) → HasNoCircle r
