-- A worker of a recording by threads: one thread of the guest, alone but for the table of the objects.
use Rattle.ir_thread.specs.declared.profile.Profile.{Profile}
use Rattle.std.specs.Prelude.{◌≡◌, ℕ, ◌≤◌, List, [], ◌∷◌, ◌++◌, length, map, All, Bool, true, false, None}
use Rattle.std.specs.List.{AllByRecursion}
use Rattle.atomic_table.specs.Seated.{TableId}
use Rattle.atomic_table.specs.declared.shared.Seat.{Seat}
use Rattle.ir_image.specs.Guest.{Guest, object_count}
use Rattle.ir_thread.specs.State.{held_at, ask_of, most_events, thread_machine}
use Rattle.ir_runs.specs.Machine.{Machine, Label}
use Rattle.ir_runs.specs.declared.env_kind.EnvKind.{EnvKind}
use Rattle.ir_thread.specs.State as thread
use Rattle.ir_thread.specs.declared.ask.Ask.{Ask}
use Rattle.ir_thread.specs.declared.ask.Ask.TheVariants as ask
use Rattle.ir_object.specs.Order.{Shared}
use Rattle.ir_crew.specs.Plays.{M, IsAlone, history, inside_by}
use Rattle.ir_crew.specs.Rule as rule
use Rattle.ir_crew.specs.Rule.{CrewView, shared_of, entries}
use Rattle.ir_crew.specs.declared.deed.ObjectStep.{ObjectStep}
use Rattle.ir_crew.specs.declared.table.Crew.{Crew}
use Rattle.ir_runs.specs.Run.{events}
use Rattle.ir_flat.specs.Splice.{shared_steps}
use Rattle.ir_flat.specs.Flat.{MayRun, alone_after}
use Rattle.ir_flat.specs.Trails.{alone_trail}
use Rattle.ir_log.specs.Logged.{Logged}
use Rattle.ir_log.specs.Logging.{label_of}
use Rattle.ir_trace.specs.Bounds.{IsEvent}
use Rattle.ir_record.specs.Progress.{steps_left_within}
use Rattle.ir_record.specs.Worlds.{AnsweredCall, answers_in}
use Rattle.ir_record.specs.declared.by_threads.worker.Worker.{Worker}

-- x alone, after some replies, is y; these are its object steps with what they emitted, and this is logged of its steps
pub record Worked {T : Type 0} (m : Machine T) (x y : T) (steps : List Shared) (labels log : List Label) : Type 0 where
  pub replies : List ℕ
  pub may : MayRun m x replies
  pub now : alone_after m x replies ≡ y
  pub steps_are : shared_steps m x replies ≡ steps
  pub logged : events (alone_trail m x replies labels) ≡ log

-- a worker apart from where it lies: its seat's view, its thread, its log, and what its world has answered
pub record WorkerWork : Type 0 where
  pub me : M
  pub thread : thread.ThreadState
  pub log : Logged
  pub answers : List AnsweredCall

abbrev pub work_of_worker : {W : Type 0} → (W → List AnsweredCall) → Worker W → WorkerWork
work_of_worker answers w = record { me = w.seat.me; thread = w.thread; log = w.log; answers = answers w.world }

-- the worker of thread t, whose world had answered so when it began
pub record IsWorking (g : Guest) (budget : ℕ) (profile : Profile) (t : ℕ) (before : List AnsweredCall) (w : WorkerWork) : Type 0 where
  -- the object steps of the thread
  pub track : List ObjectStep
  pub view : w.me ≡ (record { thread = t; steps = track } ∷ [], [])
  -- its thread has taken its own steps from the start; these are its object steps, and its log
  pub worked : Worked (thread_machine g.code) (thread.start_state g t budget profile) w.thread (map shared_of track) (map rule.label_by_rule track)
      (map label_of w.log.events)
  -- it is inside what it holds
  pub held : (o : ℕ) → inside_by o track ≡ held_at w.thread.held o
  pub places : length w.thread.held ≡ object_count g
  pub profile_is : w.thread.profile ≡ profile
  pub few : entries (map shared_of track) ≤ w.thread.events
  pub room : w.log.room ≡ most_events
  pub count : length w.log.events ≡ w.thread.events
  pub events_fit : AllByRecursion (IsEvent profile (object_count g)) w.log.events
  pub answered : w.answers ≡ before ++ answers_in (map label_of w.log.events)

-- the worker of some thread
abbrev pub IsWorker : Guest → WorkerWork → Type 0
IsWorker g w = (budget : ℕ) × (profile : Profile) × (t : ℕ) × (before : List AnsweredCall) × IsWorking g budget profile t before w

-- whichever thread's worker v is, w is that thread's
abbrev pub StillWorks : Guest → WorkerWork → WorkerWork → Type 0
StillWorks g v w = (budget : ℕ) (profile : Profile) (t : ℕ) (before : List AnsweredCall) → IsWorking g budget profile t before v → IsWorking g budget profile t before w

-- the step touches no object, and nothing is logged of it
abbrev pub TouchesNothing : Ask → Type 0
TouchesNothing ask.Private = Unit {0}
TouchesNothing (ask.Env kind) = ⊥
TouchesNothing (ask.Enter object access) = ⊥
TouchesNothing (ask.Try object) = ⊥
TouchesNothing (ask.Leave object access) = ⊥
TouchesNothing (ask.Get object index) = ⊥
TouchesNothing (ask.Put object index value) = ⊥
TouchesNothing ask.Print = Unit {0}
TouchesNothing (ask.End e) = Unit {0}
TouchesNothing ask.Done = ⊥

-- how many steps a thread may still take at most, with as many objects as its guest has
abbrev pub own_steps_left : thread.ThreadState → ℕ
own_steps_left x = steps_left_within (length x.held) x.ended x

-- the seat's one thread is inside what this thread holds
pub record IsInsideWork (g : Guest) (me : M) (x : thread.ThreadState) : Type 0 where
  pub alone : IsAlone me.0
  pub places : length x.held ≡ object_count g
  pub inside : (o : ℕ) → inside_by o (history me.0) ≡ held_at x.held o

-- a seat at this table, whose one thread is inside nothing
pub record IsOutside (id : TableId) (s : Seat (Unit {0}) CrewView) : Type 0 where
  pub table : s.table_id ≡ id
  pub alone : IsAlone s.me.0
  pub outside : (o : ℕ) → inside_by o (history s.me.0) ≡ None

-- the worker of a thread of this guest, whose code this is, with a seat at this table
pub record IsSeated {W : Type 0} (answers : W → List AnsweredCall) (g : Guest) (id : TableId) (code : List ℕ) (w : Worker W) : Type 0 where
  pub seat : w.seat.table_id ≡ id
  pub same_code : code ≡ g.code
  pub worker : IsWorker g (work_of_worker answers w)

-- the same of the guest and the table that the objects are at
abbrev pub IsAtWork : {W : Type 0} → (W → List AnsweredCall) → Crew → List ℕ → Worker W → Type 0
IsAtWork answers crew code w = IsSeated answers crew.table.shared.key crew.table.shared.table_id code w

-- it keeps its seat, and is still the worker of its thread
pub record Stays {W : Type 0} (answers : W → List AnsweredCall) (g : Guest) (v w : Worker W) : Type 0 where
  pub seat : w.seat.table_id ≡ v.seat.table_id
  pub still : StillWorks g (work_of_worker answers v) (work_of_worker answers w)

-- the same of the guest at the table
abbrev pub StaysAtWork : {W : Type 0} → (W → List AnsweredCall) → Crew → Worker W → Worker W → Type 0
StaysAtWork answers crew v w = Stays answers crew.table.shared.key v w

-- its thread asks its world, which failed and answered no more; the thread took no step
pub record IsStoppedWorker {W : Type 0} (answers : W → List AnsweredCall) (broken : W → Bool) (code : List ℕ) (v w : Worker W) : Type 0 where
  pub failed : broken w.world ≡ true
  pub seat : w.seat ≡ v.seat
  pub thread : w.thread ≡ v.thread
  pub asks : (kind : EnvKind) × (ask_of code v.thread ≡ ask.Env kind)
  pub no_more : answers w.world ≡ answers v.world

-- its world failed: it worked until its thread asked its world, which answered no more
pub record WorkedUntil {W : Type 0} (answers : W → List AnsweredCall) (g : Guest) (v w : Worker W) : Type 0 where
  pub last : WorkerWork
  pub still : StillWorks g (work_of_worker answers v) last
  pub asks : (kind : EnvKind) × (ask_of g.code last.thread ≡ ask.Env kind)
  pub no_more : answers w.world ≡ last.answers

-- a worker whose world has not failed, before it runs
pub record IsReadyWorker {W : Type 0} (answers : W → List AnsweredCall) (broken : W → Bool) (g : Guest) (id : TableId) (code : List ℕ)
    (w : Worker W) : Type 0 where
  pub seated : IsSeated answers g id code w
  pub works : broken w.world ≡ false

-- each of these workers may run at the table
abbrev pub AreReady : {W : Type 0} → (W → List AnsweredCall) → (W → Bool) → Crew → List ℕ → List (Worker W) → Type 0
AreReady answers broken crew code ws = All (IsReadyWorker answers broken crew.table.shared.key crew.table.shared.table_id code) ws

-- a worker that ran until its thread was done, or until its world failed, and then left all that its thread held
pub record RanToEnd {W O : Type 0} (answers : W → List AnsweredCall) (broken : W → Bool) (origin : W → O) (g : Guest) (v w : Worker W) : Type
    0 where
  pub stays : broken w.world ≡ false → Stays answers g v w
  pub done : broken w.world ≡ false → ask_of g.code w.thread ≡ ask.Done
  pub worked : broken w.world ≡ true → WorkedUntil answers g v w
  pub released : broken w.world ≡ true → IsOutside v.seat.table_id w.seat
  pub same_origin : origin w.world ≡ origin v.world
