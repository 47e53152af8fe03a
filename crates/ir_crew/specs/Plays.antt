-- What each step of the table emits the seat that takes it.
use Rattle.std.specs.Prelude.{◌≡◌, ◌≢◌, ℕ, ◌-◌, ◌/◌, ◌%◌, ◌^◌, ◌<◌, Bool, true, false, eqb, List, [], ◌∷◌, ◌++◌, map, Option, Some, None}
use Rattle.atomic_table.specs.Table.{Me, Step}
use Rattle.ir_runs.specs.Machine.{Label, Quiet, Answer, EnteredAt, FailedTry, LeftAt}
use Rattle.ir_runs.specs.declared.access.Access.{Access}
use Rattle.ir_runs.specs.declared.access.Access.TheVariants.{Reading, Writing}
use Rattle.ir_object.specs.Layout.{apart, word_place, content_place}
use Rattle.ir_object.specs.Order.{inside_after}
use Rattle.ir_object.specs.Word.{fields_of}
use Rattle.ir_crew.specs.Rule.{CrewView, shared_of, label_by_rule}
use Rattle.ir_crew.specs.declared.deed.Deed.{Deed}
use Rattle.ir_crew.specs.declared.deed.Deed.TheVariants.{Enter, Try, Leave, Get, Put}
use Rattle.ir_crew.specs.declared.deed.ObjectStep.{ObjectStep}

-- a seat of one thread
abbrev pub IsAlone : CrewView → Type 0
IsAlone [] = ⊥
IsAlone (k ∷ []) = Unit {0}
IsAlone (k ∷ l ∷ ks) = ⊥

-- the object steps of a seat's thread
abbrev pub history : CrewView → List ObjectStep
history [] = []
history (k ∷ ks) = k.steps

-- the view, and then this step of its thread
abbrev pub did : CrewView → ℕ → Deed → CrewView
did [] o d = []
did (k ∷ ks) o d = record { thread = k.thread; steps = k.steps ++ record { object = o; deed = d } ∷ [] } ∷ ks

-- how a thread is inside object o after these object steps of its own, from outside
abbrev pub inside_by : ℕ → List ObjectStep → Option Access
inside_by o h = inside_after o None (map shared_of h)

-- the version after a label, of object o
abbrev pub version_if : Bool → ℕ → ℕ → ℕ
version_if true w v = w
version_if false w v = v

abbrev pub version_then : ℕ → Label → ℕ → ℕ
version_then o Quiet v = v
version_then o (Answer k w) v = v
version_then o (EnteredAt p a w l) v = version_if (eqb o p) w v
version_then o (FailedTry p) v = v
version_then o (LeftAt p a w) v = v

-- the version at which a thread entered object o last, by its own labels
abbrev pub entered_at : ℕ → ℕ → List Label → ℕ
entered_at o v [] = v
entered_at o v (k ∷ ks) = entered_at o (version_then o k v) ks

abbrev pub M : Type 0
M = Me (Unit {0}) CrewView

-- the object of a word, and the index of a word of contents
abbrev pub object_of : ℕ → ℕ
object_of word = (word - word_place 0) / apart

abbrev pub index_of : ℕ → ℕ
index_of word = (word - content_place 0 0) % apart

-- what a look at an object's word emits: it has room for an entry, and while the thread is inside for writing, the version is that of its
-- entry
pub record IsSight (h : List ObjectStep) (o n : ℕ) : Type 0 where
  pub small : n < 2 ^ 63
  pub version : inside_by o h ≡ Some Writing → (fields_of n).version ≡ entered_at o 0 (map label_by_rule h)

abbrev pub looked_in_play : Step (Unit {0}) → M → ℕ → M → Type 0
looked_in_play s me n w = (w ≡ me) × IsSight (history me.0) (object_of s.word) n

-- the step was taken where the word was the one expected, and else none was
abbrev pub tried : (ℕ → Deed) → Step (Unit {0}) → M → ℕ → M → Type 0
tried d s me n w = (n ≡ s.first → w ≡ (did me.0 (object_of s.word) (d n), me.1)) × (n ≢ s.first → w ≡ me) × (n < 2 ^ 63)

abbrev pub read_entry : ℕ → Deed
read_entry n = Enter Reading (fields_of n).version 0

abbrev pub write_entry : ℕ → Deed
write_entry n = Enter Writing (fields_of n).version (fields_of n).left

abbrev pub try_entry : ℕ → Deed
try_entry n = Try (fields_of n).version (fields_of n).left

abbrev pub entered_read : Step (Unit {0}) → M → ℕ → M → Type 0
entered_read = tried read_entry

abbrev pub entered_write : Step (Unit {0}) → M → ℕ → M → Type 0
entered_write = tried write_entry

abbrev pub entered_by_try : Step (Unit {0}) → M → ℕ → M → Type 0
entered_by_try = tried try_entry

abbrev pub left_by_play : Access → Step (Unit {0}) → M → ℕ → M → Type 0
left_by_play a s me n w = (v : ℕ) × (w ≡ (did me.0 (object_of s.word) (Leave a v), me.1))

abbrev pub left_reading : Step (Unit {0}) → M → ℕ → M → Type 0
left_reading = left_by_play Reading

abbrev pub left_writing : Step (Unit {0}) → M → ℕ → M → Type 0
left_writing = left_by_play Writing

abbrev pub got : Step (Unit {0}) → M → ℕ → M → Type 0
got s me n w = (w ≡ (did me.0 (object_of s.word) (Get (index_of s.word) n), me.1)) × (n < 2 ^ 32)

abbrev pub wrote : Step (Unit {0}) → M → ℕ → M → Type 0
wrote s me n w = w ≡ (did me.0 (object_of s.word) (Put (index_of s.word) n), me.1)
