-- Private steps that threads take before their turns come.
use Rattle.std.specs.Prelude.{◌≡◌, ◌<◌, ◌≤◌, ◌+◌, ℕ, zero, suc, List, [], ◌∷◌, ◌++◌, length, ◌⊎◌, Bool, true, false}
use Rattle.std.specs.List.{slice_index_or}
use Rattle.ir_runs.specs.Machine.{Machine, Private}
use Rattle.ir_thread.specs.State as thread
use Rattle.ir_thread.specs.State.{ask_of}
use Rattle.ir_thread.specs.declared.ask.Ask as ask
use Rattle.ir_thread.specs.declared.ask.Ask.TheVariants.{Done}
use Rattle.ir_flat.specs.Flat.{Flat, IsFlat, thread_of, tables, machine}
use Rattle.ir_runs.specs.Run.{State, Step, end, log, HasNone}
use Rattle.ir_runs.specs.Orders.{InTurn}
use Rattle.ir_record.specs.Progress.{Progress, all_left, labels_at}
use Rattle.ir_record.specs.Worlds.{answers_at, answers_in}

-- a thread after k steps by itself
abbrev pub alone : {T : Type 0} → Machine T → ℕ → T → T
alone m zero x = x
alone m (suc k) x = alone m k (m.take x 0)

-- how many steps thread t is ahead
abbrev pub lead_of_thread : List ℕ → ℕ → ℕ
lead_of_thread ahead t = slice_index_or ahead t 0

-- the later state is s, with each thread t lead ahead t private steps ahead
pub record IsThreadAhead {T : Type 0} (m : Machine T) (ahead : List ℕ) (s later : State T) : Type 0 where
  pub threads : (t : ℕ) → later.now t ≡ alone m (lead_of_thread ahead t) (s.now t)
  pub each : (t k : ℕ) → k < lead_of_thread ahead t → m.ask (alone m k (s.now t)) ≡ Private
  pub objects : later.objects ≡ s.objects

-- each of the first n threads is as many steps ahead as there are such rounds, or has no step in the later state: in these
-- rounds no object changes
abbrev pub CanSkip : {T : Type 0} → Machine T → ℕ → ℕ → List ℕ → State T → Type 0
CanSkip m n count ahead later = (t : ℕ) → t < n → (count ≤ lead_of_thread ahead t) ⊎ HasNone m later t

-- how many steps all threads are ahead
abbrev pub all_threads_ahead : List ℕ → ℕ
all_threads_ahead [] = 0
all_threads_ahead (k ∷ ks) = k + all_threads_ahead ks

-- each thread of the guest has a place, and what is kept there is what it asks
pub record AreAsks (asks : List ask.Ask) (f : Flat) : Type 0 where
  pub flat : IsFlat f
  pub places : length asks ≡ length f.threads
  pub asked : (t : ℕ) → t < length f.threads → slice_index_or asks t Done ≡ ask_of f.code (thread_of f t)

-- each thread has a place for how many steps it is ahead, and one for what it asks
pub record HasPlaces (numbers : List ℕ) (kept : List ask.Ask) (f : Flat) : Type 0 where
  pub leads : length numbers ≡ length f.threads
  pub asks : AreAsks kept f

-- none of these threads is ahead
abbrev pub NoneAhead : List ℕ → List ℕ → Type 0
NoneAhead [] ahead = Unit {0}
NoneAhead (t ∷ order) ahead = (lead_of_thread ahead t ≡ 0) × NoneAhead order ahead

-- a is ahead of the state s, and b is a after a turn of each thread that the order names
pub record Went (order : List ℕ) (s : State thread.ThreadState) (a : Progress) (old : List ℕ) (b : Progress) (new : List ℕ) : Type 0 where
  pub run : List Step
  pub turns : InTurn (machine a.flat) s order run
  pub ahead : IsThreadAhead (machine a.flat) new (end (machine a.flat) s run) (tables b.flat)
  pub code : b.flat.code ≡ a.flat.code
  pub threads : length b.flat.threads ≡ length a.flat.threads
  pub objects : length b.flat.objects ≡ length a.flat.objects
  -- what its steps log is added to each thread's log, and the answers among it to those of the thread's world
  pub logs : (t : ℕ) → t < length a.flat.threads → labels_at b.logs t ≡ labels_at a.logs t ++ log (machine a.flat) s run t
  pub answers : (t : ℕ) → t < length a.flat.threads
      → answers_at b.answers t ≡ answers_at a.answers t ++ answers_in (log (machine a.flat) s run t)
  pub fewer : all_left (length a.flat.threads) (tables b.flat).now + all_threads_ahead new + length run ≤ all_left (length a.flat.threads)
      (tables a.flat).now + all_threads_ahead old

-- the same, and whether a step was taken
pub record WentIf (moved : Bool) (order : List ℕ) (s : State thread.ThreadState) (a : Progress) (old : List ℕ) (b : Progress) (new : List ℕ) :
    Type 0 where
  pub went : Went order s a old b new
  pub some : moved ≡ true → 0 < length went.run
  pub none : moved ≡ false → (went.run ≡ []) × (new ≡ old) × NoneAhead order old
