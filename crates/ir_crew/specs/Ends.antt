-- How the table is opened and closed.
use Rattle.std.specs.Prelude.{◌≡◌, ℕ, suc, ◌<◌, ◌≤◌, List, [], ◌∷◌, length, slice_index}
use Rattle.std.specs.List.{slice_index_or}
use mathlib.Core.Option.{some}
use lib.ListN.{get_elem?}
use Rattle.atomic_table.specs.Seated.{TableId}
use Rattle.atomic_table.specs.declared.shared.Seat.{Seat}
use Rattle.ir_image.specs.Guest.{Guest, object_count, most_object_words, first_words}
use Rattle.ir_thread.specs.State.{most_events, thread_machine}
use Rattle.ir_object.specs.Cell.{Cell}
use Rattle.ir_object.specs.Empty.{empty}
use Rattle.ir_object.specs.Standing.{StandsFor}
use Rattle.ir_object.specs.Layout.{word_place, content_place, table_length}
use Rattle.ir_object.specs.Order.{Shared, of_thread, objects_after, IsLegal}
use Rattle.ir_object.specs.Word.{fields_of}
use Rattle.ir_crew.specs.Rule.{CrewView, entries, start_objects, IsTrackOfRule}

-- the seats of the threads from t on, in order, each with no step
abbrev pub AreCrewSeats : TableId → ℕ → List (Seat (Unit {0}) CrewView) → Type 0
AreCrewSeats id t [] = Unit {0}
AreCrewSeats id t (x ∷ xs) = ((x.table_id ≡ id) × (x.me ≡ (record { thread = t; steps = [] } ∷ [], []))) × AreCrewSeats id (suc t) xs

-- each of these tracks has the object steps of its thread
abbrev pub AreCrewTracks : Guest → List (ℕ × Shared) → CrewView → Type 0
AreCrewTracks g steps [] = Unit {0}
AreCrewTracks g steps (k ∷ ks) = IsTrackOfRule (length g.entries) (start_objects g) steps k × AreCrewTracks g steps ks

-- the threads have taken object steps in an order, each allowed after those before it, of which the view has those of its threads; these
-- are the objects after them
pub record IsCrewEnd (g : Guest) (v : CrewView) (objects : List Cell) : Type 0 where
  pub steps : List (ℕ × Shared)
  pub legal : IsLegal (thread_machine g.code) (length g.entries) (object_count g) (start_objects g) steps
  pub few : (t : ℕ) → entries (of_thread t steps) ≤ most_events
  pub tracks : AreCrewTracks g steps v
  pub stand : (o : ℕ) → o < object_count g → StandsFor (length g.entries) (slice_index_or objects o empty)
      (objects_after (start_objects g) steps o)

-- what is laid out before the first step: the objects' words are 0, and their contents the first words of the guest
pub record IsCrewLaid (g : Guest) (laid : List ℕ) : Type 0 where
  pub size : length laid ≡ table_length (object_count g)
  pub free : (o : ℕ) → o < object_count g → slice_index laid (word_place o) ≡ 0
  pub contents : (o i : ℕ) → o < object_count g → i < most_object_words
      → slice_index laid (content_place o i) ≡ slice_index (first_words g o) i

-- the object of these words
pub record IsObjectOf (words : List ℕ) (o : ℕ) (c : Cell) : Type 0 where
  pub word : ℕ
  pub head : get_elem? words (word_place o) ≡ some word
  pub fields : c.fields ≡ fields_of word
  pub contents : (i : ℕ) → i < most_object_words → get_elem? words (content_place o i) ≡ some (slice_index c.words i)
