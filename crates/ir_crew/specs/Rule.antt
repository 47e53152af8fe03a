-- The rule of the recording table: its words are the objects after the object steps that its seats have taken.
use Rattle.std.specs.Prelude.{◌≡◌, ℕ, zero, suc, ◌+◌, ◌<◌, ◌≤◌, List, [], ◌∷◌, map, length, slice_index, None}
use mathlib.Core.Option.{some}
use lib.ListN.{get_elem?}
use Rattle.atomic_table.specs.Table.{State}
use Rattle.ir_image.specs.Guest.{Guest, object_count, most_object_words, first_words}
use Rattle.ir_image.specs.Bounds.{IsGuest}
use Rattle.ir_thread.specs.State.{most_events, thread_machine}
use Rattle.ir_runs.specs.Machine.{Act, Silent, Replied, Entered, TryFailed, Left, Got, Stored, Never, Object, Label, Quiet, EnteredAt, LeftAt}
use Rattle.ir_runs.specs.declared.access.Access.TheVariants.{Writing}
use Rattle.ir_object.specs.Cell.{Counts}
use Rattle.ir_object.specs.Layout.{word_place, content_place, table_length}
use Rattle.ir_object.specs.Order.{Shared, of_thread, objects_after, order_labels, IsLegal}
use Rattle.ir_object.specs.Word.{fields_of}
use Rattle.ir_object.specs.declared.fields.Fields.{Fields}
use Rattle.ir_crew.specs.declared.deed.Deed.{Deed}
use Rattle.ir_crew.specs.declared.deed.Deed.TheVariants.{Enter, Try, Leave, Get, Put}
use Rattle.ir_crew.specs.declared.deed.ObjectStep.{ObjectStep}
use Rattle.ir_crew.specs.declared.deed.Track.{Track}

-- what a seat knows: the object steps of its threads
abbrev pub CrewView : Type 0
CrewView = List Track

-- what the deed does to object o, and its answer; a try that entered is answered 1
abbrev pub shared_by : ℕ → Deed → Shared
shared_by o (Enter a v l) = (Entered o a 0, 0)
shared_by o (Try v l) = (Entered o Writing 1, 1)
shared_by o (Leave a v) = (Left o a, 0)
shared_by o (Get i w) = (Got o i, w)
shared_by o (Put i w) = (Stored o i w, 0)

-- what it emits
abbrev pub label_by : ℕ → Deed → Label
label_by o (Enter a v l) = EnteredAt o a v l
label_by o (Try v l) = EnteredAt o Writing v l
label_by o (Leave a v) = LeftAt o a v
label_by o (Get i w) = Quiet
label_by o (Put i w) = Quiet

abbrev pub shared_of : ObjectStep → Shared
shared_of e = shared_by e.object e.deed

abbrev pub label_by_rule : ObjectStep → Label
label_by_rule e = label_by e.object e.deed

-- 1 for an entry
abbrev pub one_if_entry : Act → ℕ
one_if_entry Silent = 0
one_if_entry (Replied k v) = 0
one_if_entry (Entered o a v) = 1
one_if_entry (TryFailed o) = 0
one_if_entry (Left o a) = 0
one_if_entry (Got o i) = 0
one_if_entry (Stored o i w) = 0
one_if_entry Never = 0

-- how many of the object steps are entries
abbrev pub entries : List Shared → ℕ
entries [] = 0
entries (x ∷ xs) = one_if_entry x.0 + entries xs

-- the objects of a guest that no thread has entered
abbrev pub start_objects : Guest → ℕ → Object
start_objects g o = record {
  version = 0;
  left = 0;
  inside = λ t. None;
  words = slice_index (first_words g o);
}

-- a word of n threads says this of the object
pub record Represents (n : ℕ) (f : Fields) (b : Object) : Type 0 where
  pub version : f.version ≡ b.version
  pub left : f.left ≡ b.left
  pub inside : Counts n f b.inside

-- the words are those of count objects
pub record IsCrewTable (n count : ℕ) (objects : ℕ → Object) (ws : List ℕ) : Type 0 where
  pub size : length ws ≡ table_length count
  pub words : (o : ℕ) → o < count → Represents n (fields_of (slice_index ws (word_place o))) (objects o)
  pub contents : (o i : ℕ) → o < count → i < most_object_words → slice_index ws (content_place o i) ≡ (objects o).words i

-- the track has the object steps of its thread, one of n, in the order of all, with what they were answered
pub record IsTrackOfRule (n : ℕ) (f : ℕ → Object) (steps : List (ℕ × Shared)) (k : Track) : Type 0 where
  pub thread : k.thread < n
  pub steps_are : of_thread k.thread steps ≡ map shared_of k.steps
  pub labels_are : of_thread k.thread (order_labels f steps) ≡ map label_by_rule k.steps

-- the tracks of a seat are such, and it is the seat of their threads
abbrev pub FitsTable : ℕ → (ℕ → Object) → List (ℕ × Shared) → (ℕ → ℕ) → ℕ → CrewView → Type 0
FitsTable n f steps seat id [] = Unit {0}
FitsTable n f steps seat id (k ∷ ks) = (IsTrackOfRule n f steps k × (seat k.thread ≡ id)) × FitsTable n f steps seat id ks

-- there is an order of object steps, each allowed after those before it, of which each seat has those of its threads, and the words are the
-- objects after them; no thread has more entries than events
pub record KeptByRule (g : Guest) (x : State (Unit {0}) CrewView) : Type 0 where
  pub guest : IsGuest g
  pub steps : List (ℕ × Shared)
  pub seat : ℕ → ℕ
  pub legal : IsLegal (thread_machine g.code) (length g.entries) (object_count g) (start_objects g) steps
  pub few : (t : ℕ) → entries (of_thread t steps) ≤ most_events
  pub fits : (id : ℕ) (v : CrewView) → get_elem? x.views id ≡ some v → FitsTable (length g.entries) (start_objects g) steps seat id v
  pub table : IsCrewTable (length g.entries) (object_count g) (objects_after (start_objects g) steps) x.words

-- the tracks of n threads from t on, with no step
abbrev pub crew_tracks_from : ℕ → ℕ → CrewView
crew_tracks_from t zero = []
crew_tracks_from t (suc n) = record { thread = t; steps = [] } ∷ crew_tracks_from (suc t) n
