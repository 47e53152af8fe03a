-- States whose threads, beside what answers them, and words are kept in tables.
use Rattle.std.specs.Prelude.{◌≡◌, ◌<◌, ◌+◌, ◌*◌, ◌^◌, ℕ, List, [], length, map, Some, slice_get, slice_set}
use Rattle.std.specs.List.{AllByRecursion, slice_index_or}
use Rattle.ir_image.specs.declared.form.ImageForm.{ImageForm}
use Rattle.ir_thread.specs.State.{ThreadState}
use Rattle.ir_world.specs.Sources.{Source}
use Rattle.ir_object.specs.Cell.{Cell}
use Rattle.ir_object.specs.Word.{fields_of}
use Rattle.ir_flat.specs.Flat.{Flat, IsFlat, thread_of, cell_of}
use Rattle.ir_flat.specs.Next.{with_thread, with_object}
use Rattle.ir_thread_bytes.specs.Twins.{AreTwins}
use Rattle.ir_likeness.specs.Seen.{Same, view}
use Rattle.ir_state_store.specs.declared.spot.Spot.{Spot}
use Rattle.ir_state_store.specs.Hashes.{empty_hash, after_numbers, IsFoundBy}
use Rattle.ir_state_store.specs.Table.{no_source, threads_at, sources_at, AreIn, KeepsNumbers}

-- a guest's state, and what answers each of its threads
pub record SourcedFlat : Type 0 where
  pub flat : Flat
  pub sources : List Source

-- what answers thread t
abbrev pub source_of : SourcedFlat → ℕ → Source
source_of s t = slice_index_or s.sources t no_source

-- thread t beside what answers it
abbrev pub sourced_thread : SourcedFlat → ℕ → ThreadState × Source
sourced_thread s t = (thread_of s.flat t, source_of s t)

-- another thread t beside what answers it, and another object o
abbrev pub with_turn : SourcedFlat → ℕ → ThreadState × Source → ℕ → Cell → SourcedFlat
with_turn s t x o c = record { flat = with_object (with_thread s.flat t x.0) o c; sources = slice_set s.sources t x.1 }

-- a guest's state, in which each thread has what answers it
pub record IsSourced (s : SourcedFlat) : Type 0 where
  pub flat : IsFlat s.flat
  pub each : length s.sources ≡ length s.flat.threads

-- the threads beside what answers them and the words of objects that states have, by their numbers
pub record Shared : Type 0 where
  pub threads : List (ThreadState × Source)
  pub words : List (List ℕ)

-- a state: its code, the numbers of its threads, and its objects, each with the number of its words
pub record Node : Type 0 where
  pub code : List ℕ
  pub threads : List ℕ
  pub objects : List Spot

-- the word of an object, of two halves
abbrev pub word_in : Spot → ℕ
word_in spot = spot.high * 2 ^ 32 + spot.low

-- the object with the words of this number
abbrev pub cell_in : List (List ℕ) → Spot → Cell
cell_in words spot = record { fields = fields_of (word_in spot); words = slice_index_or words spot.words [] }

abbrev pub cells_at : List (List ℕ) → List Spot → List Cell
cells_at words spots = map (cell_in words) spots

abbrev pub sourced_in : Shared → Node → SourcedFlat
sourced_in shared node = record {
  flat = record {
    code = node.code;
    threads = threads_at shared.threads node.threads;
    objects = cells_at shared.words node.objects;
  };
  sources = sources_at shared.threads node.threads;
}

-- each number is that of words
abbrev pub HaveWords : List (List ℕ) → List Spot → Type 0
HaveWords words spots = AllByRecursion (λ s. s.words < length words) spots

-- the tables have what the state is of
pub record IsWithin (shared : Shared) (node : Node) : Type 0 where
  pub threads : AreIn shared.threads node.threads
  pub words : HaveWords shared.words node.objects

-- so they have, and it is a guest's state
pub record IsNode (shared : Shared) (node : Node) : Type 0 where
  pub within : IsWithin shared node
  pub sourced : IsSourced (sourced_in shared node)

abbrev pub AreKept : Shared → List Node → Type 0
AreKept shared nodes = AllByRecursion (IsNode shared) nodes

-- what is there keeps its number
pub record Grows (old new : Shared) : Type 0 where
  pub threads : KeepsNumbers old.threads new.threads
  pub words : KeepsNumbers old.words new.words

-- states of a guest, the form of its image, and its code; beside them what they are made of
pub record Stored : Type 0 where
  pub items : List SourcedFlat
  pub form : ImageForm
  pub code : List ℕ
  pub shared : Shared
  pub nodes : List Node

-- two moments of a thread that runs this code look the same to it, beside what answers it
abbrev pub MomentsLookSame : List ℕ → ThreadState × Source → ThreadState × Source → Type 0
MomentsLookSame code x y = AreTwins x.0 y.0 → Same {S = Source} code (view x.0, x.1) (view y.0, y.1)

-- two moments of a guest with this code look the same to its threads
pub record AreSameLooks (code : List ℕ) (s u : SourcedFlat) : Type 0 where
  pub threads : (t : ℕ) → t < length s.flat.threads → MomentsLookSame code (sourced_thread s t) (sourced_thread u t)
  pub words : (o : ℕ) → (cell_of s.flat o).words ≡ (cell_of u.flat o).words

-- two moments of one guest: the same threads and objects
pub record AreMoments (s u : SourcedFlat) : Type 0 where
  pub threads : length u.flat.threads ≡ length s.flat.threads
  pub objects : length u.flat.objects ≡ length s.flat.objects
  pub twins : (t : ℕ) → AreTwins (thread_of s.flat t) (thread_of u.flat t)

-- the numbers that stand for threads of these numbers
abbrev pub looks_in : List ℕ → List ℕ → List ℕ
looks_in looks numbers = map (λ n. slice_index_or looks n 0) numbers

-- the numbers of the words that objects have
abbrev pub node_words_in : List Spot → List ℕ
node_words_in objects = map (λ s. s.words) objects

-- the hash of what the threads see of a state
abbrev pub node_hash : List ℕ → Node → ℕ
node_hash looks node = after_numbers (after_numbers empty_hash (looks_in looks node.threads)) (node_words_in node.objects)

-- each state is found by it
abbrev pub AreNodesFound : List (ℕ × ℕ) → List ℕ → List Node → Type 0
AreNodesFound places looks nodes = (v : ℕ) (node : Node) → slice_get nodes v ≡ Some node → IsFoundBy places (node_hash looks node) v

-- two states have the same numbers
pub record AreSameNumbers (looks : List ℕ) (a b : Node) : Type 0 where
  pub threads : looks_in looks a.threads ≡ looks_in looks b.threads
  pub objects : node_words_in a.objects ≡ node_words_in b.objects
