-- Steps that concern no other thread.
use Rattle.std.specs.Prelude.{◌≡◌, ◌≢◌, ℕ, Bool, true, false, List, length}
use Rattle.ir_runs.specs.Machine.{Machine}
use Rattle.ir_runs.specs.Run.{State, Step, end}
use Rattle.ir_search_laws.specs.Counting.{AnswersCall, RunCounts, GoesAhead}
use Rattle.ir_search_laws.specs.Sources.{sourced, by_source}
use Rattle.ir_search_laws.specs.Views.{IsLiveRun, beside}
use Rattle.ir_thread.specs.State.{ThreadState, thread_machine}
use Rattle.ir_thread.specs.declared.ask.Ask.{Ask}
use Rattle.ir_thread.specs.declared.ask.Ask.TheVariants as ask
use Rattle.ir_thread.specs.declared.end.End.TheVariants as ending
use Rattle.ir_world.specs.Sources.{Source, given}
use Rattle.ir_thread_bytes.specs.Twins.{AreTwins}
use Rattle.ir_likeness.specs.Seen.{IsLive}
use Rattle.ir_flat.specs.Flat.{Flat, tables, thread_of}
use Rattle.ir_state_store.specs.Nodes.{SourcedFlat, source_of}

-- the threads that run this code, each with its source beside it
abbrev pub full_by : List ℕ → Machine (ThreadState × Source)
full_by code = sourced (thread_machine code) given

-- each thread is answered by its own source
abbrev pub sources_by : List ℕ → AnswersCall (ThreadState × Source)
sources_by code = by_source (thread_machine code) given

-- a guest's threads and objects, each thread beside its source
abbrev pub full_of : SourcedFlat → State (ThreadState × Source)
full_of s = beside (tables s.flat) (source_of s)

-- a guest's threads and objects with these sources
abbrev pub sourced_flat : Flat → List Source → SourcedFlat
sourced_flat f sources = record { flat = f; sources = sources }

-- each thread that takes a step in the run is live before it
abbrev pub AreLive : List ℕ → State (ThreadState × Source) → List Step → Type 0
AreLive code s run = IsLiveRun (full_by code) (λ x. IsLive code x.0) s run

-- a run of live threads, each of whose calls is answered by the thread's source
abbrev pub IsAnsweredRun : List ℕ → State (ThreadState × Source) → List Step → Type 0
IsAnsweredRun code s run = RunCounts (full_by code) (sources_by code) s run × AreLive code s run

-- such a run of steps that concern no other thread: none is an entry or a try
abbrev pub IsPlainRun : List ℕ → State (ThreadState × Source) → List Step → Type 0
IsPlainRun code s run = GoesAhead (full_by code) (sources_by code) s run × AreLive code s run

-- u is s after such steps
pub record GoesPlain (s u : SourcedFlat) : Type 0 where
  pub ahead : List Step
  pub plain : IsPlainRun s.flat.code (full_of s) ahead
  pub ends : full_of u ≡ end (full_by s.flat.code) (full_of s) ahead
  pub code : u.flat.code ≡ s.flat.code
  pub threads : length u.flat.threads ≡ length s.flat.threads
  pub objects : length u.flat.objects ≡ length s.flat.objects
  pub sources : length u.sources ≡ length s.sources

-- the other threads, and what answers them, are as they were
pub record OthersStay (s u : SourcedFlat) (t : ℕ) : Type 0 where
  pub threads : (v : ℕ) → v ≢ t → thread_of u.flat v ≡ thread_of s.flat v
  pub sources : (v : ℕ) → v ≢ t → source_of u v ≡ source_of s v

-- two moments of one guest
pub record LooksAlike (f g : Flat) : Type 0 where
  pub code : g.code ≡ f.code
  pub threads : length g.threads ≡ length f.threads
  pub objects : length g.objects ≡ length f.objects
  pub twins : (u : ℕ) → AreTwins (thread_of f u) (thread_of g u)

-- a thread asks so where it rests: it enters, tries to enter, or is done
abbrev pub Rests : Ask → Type 0
Rests (ask.Enter object access) = Unit {0}
Rests (ask.Try object) = Unit {0}
Rests ask.Done = Unit {0}
Rests _ = ⊥

-- a thread goes on where it asks so
abbrev pub IsFair : Ask → Type 0
IsFair ask.Private = Unit {0}
IsFair ask.Print = Unit {0}
IsFair (ask.Env kind) = Unit {0}
IsFair (ask.Leave object access) = Unit {0}
IsFair (ask.Get object index) = Unit {0}
IsFair (ask.Put object index value) = Unit {0}
IsFair (ask.End ending.BudgetSpent) = ⊥
IsFair (ask.End ending.LogFull) = ⊥
IsFair (ask.End e) = Unit {0}
IsFair _ = ⊥

-- the result of a refused try, or of one that enters; nothing looks at that of an entry
abbrev pub result_by : Bool → ℕ
result_by true = 0
result_by false = 1

-- the result of a step of a thread that asks so: what its source answers, or that of a try
abbrev pub result_of_plain : Bool → Ask → Source → ℕ
result_of_plain refused (ask.Env kind) source = (given kind source).0
result_of_plain refused _ source = result_by refused

-- a thread that asks so may have a step by this way: only one that tries is refused
abbrev pub MayGo : Bool → Ask → Type 0
MayGo true (ask.Try object) = Unit {0}
MayGo true _ = ⊥
MayGo false _ = Unit {0}
