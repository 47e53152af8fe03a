-- What a trace leaves to the threads of a guest, and their next steps beside it.
use Rattle.std.specs.Prelude.{◌≡◌, ◌≢◌, ℕ, suc, ◌-◌, ◌<◌, ◌≤◌, List, length, map, drop, slice_get, Some, ⊤}
use Rattle.ir_thread.specs.State.{end_number, end_code, ask_of, shared_ask}
use Rattle.ir_thread.specs.Permitted.{held_count}
use Rattle.ir_runs.specs.Machine.{Machine, Label, logged, Trace}
use Rattle.ir_runs.specs.declared.access.Access.TheVariants.{Reading, Writing}
use Rattle.ir_thread.specs.declared.ask.Ask as ask
use Rattle.ir_thread.specs.declared.ask.Ask.TheVariants as asks
use Rattle.ir_thread.specs.declared.end.End.{End}
use Rattle.ir_object.specs.Cell.{Cell}
use Rattle.ir_object.specs.Standing.{Admitted}
use Rattle.ir_flat.specs.Flat.{Flat, thread_of, tables, machine}
use Rattle.ir_runs.specs.Run.{State, Can, label}
use Rattle.ir_log.specs.Logging.{label_of}
use Rattle.ir_log.specs.declared.event.Event.{Event}
use Rattle.ir_log.specs.declared.event.Event.TheVariants.{Answer, Read, Write, Try}
use Rattle.ir_trace.specs.Recorded.{Recorded, recorded_thread, trace_of}
use Rattle.ir_runs.specs.Verdicts.{Agrees, Awaits, unlogged, closing}
use Rattle.ir_fit.specs.declared.follower.look.Look.{Look}
use Rattle.ir_fit.specs.declared.follower.look.Look.TheVariants.{Done, Disagrees, Waits, Goes}
use Rattle.ir_fit.specs.declared.follower.look.Move.{Move}

-- how many steps the trace leaves to thread t, with the guest in this state
abbrev pub steps_ahead : Recorded → Flat → ℕ → ℕ
steps_ahead r f t = (recorded_thread r t).steps - (thread_of f t).steps

-- the log that the trace leaves to thread t
abbrev pub log_ahead : Recorded → Flat → ℕ → List Label
log_ahead r f t = drop (thread_of f t).events (map label_of (recorded_thread r t).events)

-- there is the step of thread t with this result, and it follows the trace where that leaves n steps and the log es to the thread
abbrev pub StepFollows : {T : Type 0} → Machine T → Trace → State T → ℕ → List Label → ℕ → ℕ → Type 0
StepFollows m tr s n es t v = Can m s (t, v) × (0 < n) × (logged (label m s (t, v)) (unlogged (label m s (t, v)) es) ≡ es)
    × closing m tr t (s.now t) n es

-- there is the step of thread t with this result now, and it follows the trace
abbrev pub CanFollow : Recorded → Flat → ℕ → ℕ → Type 0
CanFollow r f t v = StepFollows (machine f) (trace_of r) (tables f) (steps_ahead r f t) (log_ahead r f t) t v

-- thread t has no step now that follows the trace
abbrev pub IsStoppedAhead : Recorded → Flat → ℕ → Type 0
IsStoppedAhead r f t = (v : ℕ) → CanFollow r f t v → ⊥

-- the next step of thread t is the trace's
abbrev pub AgreesAhead : Recorded → Flat → ℕ → Type 0
AgreesAhead r f t = Agrees (machine f) ((trace_of r).ends t) (thread_of f t) (steps_ahead r f t) (log_ahead r f t)

-- the object can be entered now as the event says: at its version, for writing after its readers have left, and no thread is inside that
-- keeps others out
abbrev pub IsOpen : Cell → Event → Type 0
IsOpen c (Answer kind value) = ⊥
IsOpen c (Read object version) = (c.fields.version ≡ version) × Admitted Reading c.fields
IsOpen c (Try object) = ⊥
IsOpen c (Write object version readers) = (c.fields.version ≡ version) × (c.fields.left ≡ readers) × Admitted Writing c.fields

-- where thread t is at this end, that is the trace's, no event is left to it, and the steps that are left are this one and a leave of each
-- object that it holds
pub record EndsSo (r : Recorded) (f : Flat) (t : ℕ) (e : End) : Type 0 where
  pub number : end_number (recorded_thread r t).end ≡ end_number e
  pub code : end_code (recorded_thread r t).end ≡ end_code e
  pub steps : steps_ahead r f t ≡ suc (held_count (thread_of f t).held)
  pub events : length (recorded_thread r t).events ≤ (thread_of f t).events

-- a step that the trace emits nothing of
abbrev pub IsOwn : ask.Ask → Type 0
IsOwn (asks.Env kind) = ⊥
IsOwn (asks.Enter object access) = ⊥
IsOwn (asks.Try object) = ⊥
IsOwn (asks.End e) = ⊥
IsOwn asks.Done = ⊥
IsOwn _ = ⊤

-- a step of a thread now that follows the trace, and what the thread asks
pub record IsMove (r : Recorded) (f : Flat) (m : Move) : Type 0 where
  pub below : m.thread < length f.threads
  pub asked : m.asked ≡ ask_of f.code (thread_of f m.thread)
  pub follows : CanFollow r f m.thread m.result

-- the next step of thread t is an entry, or a try that the trace says got in, and the next event that the trace emits of it is this one
pub record IsEntryAhead (r : Recorded) (f : Flat) (t : ℕ) (e : Event) : Type 0 where
  pub awaits : Awaits (shared_ask (ask_of f.code (thread_of f t))) (log_ahead r f t)
  pub next : slice_get (recorded_thread r t).events (thread_of f t).events ≡ Some e

-- what is seen of thread t: it is done; its next step isn't the trace's; it is, but as an entry or a try that got in, logged as
-- this event, it can't follow now; or the step follows
abbrev pub IsSeen : Recorded → Flat → ℕ → Look → Type 0
IsSeen r f t Done = ask_of f.code (thread_of f t) ≡ asks.Done
IsSeen r f t Disagrees = (ask_of f.code (thread_of f t) ≢ asks.Done) × (AgreesAhead r f t → ⊥)
IsSeen r f t (Waits e) = IsEntryAhead r f t e × AgreesAhead r f t × IsStoppedAhead r f t
IsSeen r f t (Goes m) = (m.thread ≡ t) × IsMove r f m
