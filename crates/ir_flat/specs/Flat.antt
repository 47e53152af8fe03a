-- The threads and objects of a guest.
use Rattle.std.specs.Prelude.{◌≡◌, ◌<◌, ◌≤◌, ℕ, zero, suc, List, [], ◌∷◌, length, slice_index, Option, Some, false, ◌≢◌, ◌+◌, None, if◌then◌else◌, true}
use Rattle.std.specs.List.{slice_index_or}
use Rattle.ir_image.specs.Guest.{Guest, most_threads, most_objects, most_object_words, object_count, first_words}
use Rattle.ir_image.specs.declared.form.ImageForm.TheVariants.{Small}
use Rattle.ir_thread.specs.State.{held_at, ThreadState, start_state, thread_machine, most_events}
use Rattle.ir_runs.specs.Machine.{Machine, Act, act_of, Replied, Entered, Got, Never}
use Rattle.ir_runs.specs.declared.access.Access.{Access}
use Rattle.ir_thread.specs.declared.end.End.TheVariants.{Breakpoint}
use Rattle.ir_thread.specs.declared.profile.Profile.{Profile}
use Rattle.ir_thread.specs.declared.profile.Profile.TheVariants.{One}
use Rattle.ir_object.specs.Cell.{Cell, Counts, readers, has_writer}
use Rattle.ir_runs.specs.declared.access.Access.TheVariants.{Writing}
use Rattle.ir_runs.specs.Run.{State}

-- how many events the first n threads have logged
abbrev pub events_below : ℕ → (ℕ → ThreadState) → ℕ
events_below zero now = 0
events_below (suc n) now = events_below n now + (now n).events

-- of n threads: who is inside an object holds it, a writer is alone inside, each entry was logged, and no thread logged more than it may
pub record IsKept (n : ℕ) (s : State ThreadState) : Type 0 where
  pub linked : (t o : ℕ) → (s.objects o).inside t ≡ held_at (s.now t).held o
  pub exclusive : (o t u : ℕ) → t ≢ u → (s.objects o).inside t ≡ Some Writing → (s.objects o).inside u ≡ None
  pub others : (t o : ℕ) → n ≤ t → (s.objects o).inside t ≡ None
  pub logged : (o : ℕ) → let b = s.objects o in
      b.version + b.left + readers n b.inside + (if has_writer n b.inside then 1 else 0) ≤ events_below n s.now
  pub events : (t : ℕ) → t < n → (s.now t).events ≤ most_events

-- the lists that the code keeps
pub record Flat : Type 0 where
  pub code : List ℕ
  pub threads : List ThreadState
  pub objects : List Cell

-- a thread that is none of the guest's: it has ended and holds nothing
abbrev pub idle : ThreadState
idle = record {
  core = record { pc = 0; registers = []; memory = [] };
  number = 0;
  held = [];
  budget = 0;
  profile = One;
  form = Small;
  steps = 0;
  events = 0;
  output = [];
  ended = Some Breakpoint;
}

-- the thread of a number
abbrev pub thread_of : Flat → ℕ → ThreadState
thread_of f t = slice_index_or f.threads t idle

-- an object that no thread has entered
abbrev pub start_cell : List ℕ → Cell
start_cell words = record { fields = record { version = 0; left = 0; inside = 0; writer = false }; words = words }

-- the object of a number, as the code keeps it
abbrev pub cell_of : Flat → ℕ → Cell
cell_of f o = slice_index_or f.objects o (start_cell [])

-- who is inside an object: who holds it
abbrev pub inside_of : Flat → ℕ → ℕ → Option Access
inside_of f o t = held_at (thread_of f t).held o

-- the threads and objects as tables
abbrev pub tables : Flat → State ThreadState
tables f = record {
  now = thread_of f;
  objects = λ o. let c = cell_of f o in record { version = c.fields.version; left = c.fields.left; inside = inside_of f o; words = slice_index c.words };
}

-- the machine of each of its threads
abbrev pub machine : Flat → Machine ThreadState
machine f = thread_machine f.code

-- the threads of a guest from a number on
abbrev pub start_threads : Guest → ℕ → Profile → ℕ → ℕ → List ThreadState
start_threads guest budget profile from zero = []
start_threads guest budget profile from (suc n) = start_state guest from budget profile ∷ start_threads guest budget profile (suc from) n

-- n objects of a guest from a number on, with their words
abbrev pub start_cells : Guest → ℕ → ℕ → List Cell
start_cells guest from zero = []
start_cells guest from (suc n) = start_cell (first_words guest from) ∷ start_cells guest (suc from) n

-- a guest's threads and objects before the first step
abbrev pub start_flat : Guest → ℕ → Profile → Flat
start_flat guest budget profile = record {
  code = guest.code;
  threads = start_threads guest budget profile 0 (length guest.entries);
  objects = start_cells guest 0 (object_count guest);
}

-- an object of a guest's: its word counts who holds it
pub record IsShared (f : Flat) (o : ℕ) : Type 0 where
  pub counts : Counts (length f.threads) (cell_of f o).fields (inside_of f o)
  pub words : length (cell_of f o).words ≡ most_object_words

-- what the threads and objects of a guest always keep
pub record IsFlat (f : Flat) : Type 0 where
  pub few_threads : length f.threads ≤ most_threads
  pub few_objects : length f.objects ≤ most_objects
  pub places : (t : ℕ) → t < length f.threads → length (thread_of f t).held ≡ length f.objects
  pub objects : (o : ℕ) → o < length f.objects → IsShared f o
  pub kept : IsKept (length f.threads) (tables f)

-- what may be answered to a thread that runs alone
abbrev pub MayReply : {T : Type 0} → Machine T → Act → ℕ → Type 0
MayReply m (Replied k w) v = m.fits k v ≡ true
MayReply m (Entered o a w) v = v ≡ w
MayReply m (Got o i) v = Unit {0}
MayReply m Never v = ⊥
MayReply m q v = v ≡ 0

-- a thread that starts as x, alone, may be given these replies
abbrev pub MayRun : {T : Type 0} → Machine T → T → List ℕ → Type 0
MayRun m x [] = Unit {0}
MayRun m x (v ∷ vs) = MayReply m (act_of (m.ask x) v) v × MayRun m (m.take x v) vs

-- what it is after them
abbrev pub alone_after : {T : Type 0} → Machine T → T → List ℕ → T
alone_after m x [] = x
alone_after m x (v ∷ vs) = alone_after m (m.take x v) vs
