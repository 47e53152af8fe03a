-- What is gathered once all threads are done.
use Rattle.std.specs.Prelude.{◌≡◌, ◌<◌, ℕ, List, length, Some}
use Rattle.std.specs.List.{slice_index_or}
use Rattle.ir_thread.specs.State as thread
use Rattle.ir_flat.specs.Flat.{Flat, thread_of}
use Rattle.ir_log.specs.Logged.{Logged}
use Rattle.ir_trace.specs.Recorded.{RecordedThread}
use Rattle.ir_trace.specs.Absent.{absent}
use Rattle.ir_record.specs.Progress.{log_at}

-- what was recorded of a thread: its steps, its end and its events
pub record IsThreadTrace (x : thread.ThreadState) (l : Logged) (r : RecordedThread) : Type 0 where
  pub steps : r.steps ≡ x.steps
  pub end : x.ended ≡ Some r.end
  pub events : r.events ≡ l.events

-- what was recorded of the first threads, of which each has a log
pub record AreThreadTraces (f : Flat) (logs : List Logged) (rs : List RecordedThread) : Type 0 where
  pub count : length rs ≡ length logs
  pub each : (t : ℕ) → t < length logs → IsThreadTrace (thread_of f t) (log_at logs t) (slice_index_or rs t absent)
