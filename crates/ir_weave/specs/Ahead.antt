-- Threads that have gone ahead by steps that touch no object.
use Rattle.std.specs.Prelude.{◌≡◌, ◌<◌, ◌≤◌, ℕ, List, length, slice_get, Option, Some, ⊤}
use Rattle.ir_image.specs.Guest.{object_count}
use Rattle.ir_thread.specs.State.{ask_of}
use Rattle.ir_thread.specs.State as thread
use Rattle.ir_thread.specs.declared.ask.Ask.{Ask}
use Rattle.ir_thread.specs.declared.ask.Ask.TheVariants as ask
use Rattle.ir_runs.specs.declared.access.Access.{Access}
use Rattle.ir_runs.specs.Run.{Step, count}
use Rattle.ir_log.specs.Asked.{ask_of as event_ask, SuitsEvent}
use Rattle.ir_log.specs.declared.event.Event.{Event}
use Rattle.ir_log.specs.declared.event.Event.TheVariants as event
use Rattle.ir_trace.specs.Recorded.{recorded_thread}
use Rattle.ir_fit.specs.Fit.{FittedTrace, HasRun}
use Rattle.ir_cut.specs.Positions.{machine_of, start_of, thread_at, EachRun}

-- a try that is logged so was refused
abbrev pub IsRefusedTry : Option Event → Type 0
IsRefusedTry (Some (event.Try object)) = ⊤
IsRefusedTry _ = ⊥

-- a step that asks so, of which the trace emits this event next, touches no object
abbrev pub TouchesNoObject : Ask → Option Event → Type 0
TouchesNoObject ask.Private e = ⊤
TouchesNoObject (ask.Env kind) e = ⊤
TouchesNoObject (ask.Enter object access) e = ⊥
TouchesNoObject (ask.Try object) e = IsRefusedTry e
TouchesNoObject (ask.Leave object access) e = ⊥
TouchesNoObject (ask.Get object index) e = ⊥
TouchesNoObject (ask.Put object index value) e = ⊥
TouchesNoObject ask.Print e = ⊤
TouchesNoObject (ask.End x) e = ⊤
TouchesNoObject ask.Done e = ⊥

-- what it asks then
abbrev pub ask_at : FittedTrace → List Step → ℕ → ℕ → Ask
ask_at f run t k = ask_of f.guest.code (thread_at f run t k)

-- the next event that the trace emits of thread x
abbrev pub event_of : FittedTrace → ℕ → thread.ThreadState → Option Event
event_of f t x = slice_get (recorded_thread f.recorded t).events x.events

-- thread x's next step, as one of thread t's, touches no object
abbrev pub NextTouchesNone : FittedTrace → ℕ → thread.ThreadState → Type 0
NextTouchesNone f t x = TouchesNoObject (ask_of f.guest.code x) (event_of f t x)

-- thread t has more than k steps
abbrev pub HasStep : FittedTrace → ℕ → ℕ → Type 0
HasStep f t k = EachRun f (λ run. k < count (machine_of f) (start_of f) run t)

-- x is thread t after as many of its steps as it has taken
abbrev pub IsThreadAt : FittedTrace → ℕ → thread.ThreadState → Type 0
IsThreadAt f t x = EachRun f (λ run. (x.steps ≤ count (machine_of f) (start_of f) run t) × (x ≡ thread_at f run t x.steps))

-- the steps of thread t from i on, before step k, touch no object
abbrev pub AreAlone : FittedTrace → ℕ → ℕ → ℕ → Type 0
AreAlone f t i k = EachRun f (λ run. (j : ℕ) → i ≤ j → j < k → NextTouchesNone f t (thread_at f run t j))

-- step k is the first step of thread t from i on that touches an object
pub record IsNextObject (f : FittedTrace) (t i k : ℕ) : Type 0 where
  pub past : i ≤ k
  pub alone : AreAlone f t i k
  pub touches : EachRun f (λ run. NextTouchesNone f t (thread_at f run t k) → ⊥)

-- x is thread t, ahead of position i by steps that touch no object
pub record IsAhead (f : FittedTrace) (t i : ℕ) (x : thread.ThreadState) : Type 0 where
  pub run : HasRun f
  pub there : t < length f.guest.entries
  pub number : x.number ≡ t
  pub held : length x.held ≡ object_count f.guest
  pub past : i ≤ x.steps
  pub at : IsThreadAt f t x
  pub alone : AreAlone f t i x.steps

-- the next step of the thread x asks so, and the trace has it
pub record IsAsking (f : FittedTrace) (x : thread.ThreadState) (q : Ask) : Type 0 where
  pub asks : ask_of f.guest.code x ≡ q
  pub has : HasStep f x.number x.steps

-- by its next step it enters the object, by an entry or a try that gets in, and this is the next event that the trace emits of the thread
pub record IsEntering (f : FittedTrace) (x : thread.ThreadState) (o : ℕ) (a : Access) (e : Event) : Type 0 where
  pub asked : Ask
  pub asking : IsAsking f x asked
  pub event : slice_get (recorded_thread f.recorded x.number).events x.events ≡ Some e
  pub suits : SuitsEvent asked e
  pub enters : event_ask e ≡ ask.Enter o a
