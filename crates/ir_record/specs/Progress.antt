-- A recording in progress.
use Rattle.std.specs.Prelude.{◌≡◌, ◌<◌, ◌≤◌, ◌+◌, ◌-◌, ℕ, zero, suc, List, [], ◌++◌, length, map, Option, Some, None, Bool, true, false, ⊤}
use Rattle.std.specs.List.{slice_index_or, AllByRecursion}
use Rattle.ir_image.specs.Guest.{most_objects}
use Rattle.ir_thread.specs.Permitted.{held_count}
use Rattle.ir_thread.specs.State.{most_events}
use Rattle.ir_runs.specs.Machine.{Label}
use Rattle.ir_thread.specs.State as thread
use Rattle.ir_thread.specs.declared.end.End.{End}
use Rattle.ir_thread.specs.declared.ask.Ask as ask
use Rattle.ir_thread.specs.declared.ask.Ask.TheVariants as asks
use Rattle.ir_flat.specs.Flat.{Flat, thread_of, tables, machine}
use Rattle.ir_runs.specs.Run.{Step, end, log}
use Rattle.ir_runs.specs.Orders.{InTurn}
use Rattle.ir_log.specs.Logged.{Logged}
use Rattle.ir_log.specs.Logging.{label_of}
use Rattle.ir_trace.specs.Bounds.{IsEvent}
use Rattle.ir_record.specs.Refusing.{Turn, InTurns}
use Rattle.ir_record.specs.Worlds.{AnsweredCall, answers_in, NoneFailed, answers_at}
use Rattle.ir_record.specs.declared.in_order.logged_guest.LoggedGuest.{LoggedGuest}

-- a guest that is recorded: its threads and objects, the threads' logs, and the answers of their worlds
pub record Progress : Type 0 where
  pub flat : Flat
  pub logs : List Logged
  pub answers : List (List AnsweredCall)

-- the same of a guest with its logs, and the answers of the worlds
abbrev pub progress : LoggedGuest → List (List AnsweredCall) → Progress
progress guest answers = record { flat = guest.flat; logs = guest.logs.items; answers = answers }

-- the log of no thread
abbrev pub no_log : Logged
no_log = record { events = []; room = 0 }

-- the log of thread t
abbrev pub log_at : List Logged → ℕ → Logged
log_at logs t = slice_index_or logs t no_log

-- what thread t has logged, as labels of its steps
abbrev pub labels_at : List Logged → ℕ → List Label
labels_at logs t = map label_of (log_at logs t).events

-- how many steps a thread of a guest with at most this many objects may still take at most, by how it ended: what its budget leaves, its end,
-- and a leave for each object
abbrev pub steps_left_within : ℕ → Option End → thread.ThreadState → ℕ
steps_left_within most None x = 1 + most + (x.budget - x.steps)
steps_left_within most (Some e) x = held_count x.held

-- the same of any guest
abbrev pub steps_left : Option End → thread.ThreadState → ℕ
steps_left ended x = steps_left_within most_objects ended x

-- how many steps the first n threads may still take at most
abbrev pub all_left : ℕ → (ℕ → thread.ThreadState) → ℕ
all_left zero now = 0
all_left (suc n) now = all_left n now + steps_left (now n).ended (now n)

-- b is a after a turn of each thread that the order names
pub record TookSteps (order : List ℕ) (a b : Progress) : Type 0 where
  pub run : List Step
  pub turns : InTurn (machine a.flat) (tables a.flat) order run
  pub ends : tables b.flat ≡ end (machine a.flat) (tables a.flat) run
  pub code : b.flat.code ≡ a.flat.code
  pub threads : length b.flat.threads ≡ length a.flat.threads
  pub objects : length b.flat.objects ≡ length a.flat.objects
  -- what its steps log is added to each thread's log, and the answers among it to those of the thread's world
  pub logs : (t : ℕ) → t < length a.flat.threads → labels_at b.logs t ≡ labels_at a.logs t ++ log (machine a.flat) (tables a.flat) run t
  pub answers : (t : ℕ) → t < length a.flat.threads
      → answers_at b.answers t ≡ answers_at a.answers t ++ answers_in (log (machine a.flat) (tables a.flat) run t)
  pub fewer : all_left (length a.flat.threads) (tables b.flat).now + length run ≤ all_left (length a.flat.threads) (tables a.flat).now

-- b is a after the steps of a run
pub record Moved (run : List Step) (a b : Progress) : Type 0 where
  pub ends : tables b.flat ≡ end (machine a.flat) (tables a.flat) run
  pub code : b.flat.code ≡ a.flat.code
  pub threads : length b.flat.threads ≡ length a.flat.threads
  pub objects : length b.flat.objects ≡ length a.flat.objects
  -- what its steps log is added to each thread's log, and the answers among it to those of the thread's world
  pub logs : (t : ℕ) → t < length a.flat.threads → labels_at b.logs t ≡ labels_at a.logs t ++ log (machine a.flat) (tables a.flat) run t
  pub answers : (t : ℕ) → t < length a.flat.threads
      → answers_at b.answers t ≡ answers_at a.answers t ++ answers_in (log (machine a.flat) (tables a.flat) run t)
  pub fewer : all_left (length a.flat.threads) (tables b.flat).now + length run ≤ all_left (length a.flat.threads) (tables a.flat).now

-- b is a after these turns, in which tries may be refused
pub record TookTurns (turns : List Turn) (a b : Progress) : Type 0 where
  pub run : List Step
  pub in_turns : InTurns (machine a.flat) (tables a.flat) turns run
  pub moved : Moved run a b

-- b is a after a turn of each thread that the order names, and whether a step was taken
pub record TookIf (moved : Bool) (order : List ℕ) (a b : Progress) : Type 0 where
  pub took : TookSteps order a b
  pub some : moved ≡ true → 0 < length took.run
  pub none : moved ≡ false → took.run ≡ []

-- nothing is logged of a step that is asked so
abbrev pub IsQuiet : ask.Ask → Type 0
IsQuiet (asks.Env kind) = ⊥
IsQuiet (asks.Enter object access) = ⊥
IsQuiet (asks.Try object) = ⊥
IsQuiet _ = ⊤

-- each thread has a log with room for all that it may log, and its events are there
pub record HasLogs (f : Flat) (logs : List Logged) : Type 0 where
  pub one_each : length logs ≡ length f.threads
  pub rooms : (t : ℕ) → t < length f.threads → (log_at logs t).room ≡ most_events
  pub counts : (t : ℕ) → t < length f.threads → length (log_at logs t).events ≡ (thread_of f t).events
  pub events_fit : (t : ℕ) → t < length f.threads
      → AllByRecursion (IsEvent (thread_of f t).profile (length f.objects)) (log_at logs t).events

-- what holds before each turn: each thread has its log and its world, and no world has failed
pub record IsReadyToRecord (p : Progress) (failed : List Bool) : Type 0 where
  pub has_logs : HasLogs p.flat p.logs
  pub worlds : length p.answers ≡ length p.flat.threads
  pub works : NoneFailed failed
