-- The object that an object of the code stands for.
use Rattle.std.specs.Prelude.{◌≡◌, ◌≢◌, ◌↔◌, ◌<◌, ℕ, true, false, length, slice_index, slice_set, Option, Some, None}
use Rattle.ir_image.specs.Guest.{most_object_words}
use Rattle.ir_runs.specs.declared.access.Access.{Access}
use Rattle.ir_runs.specs.declared.access.Access.TheVariants.{Reading, Writing}
use Rattle.ir_object.specs.declared.fields.Fields.{Fields}
use Rattle.ir_runs.specs.Machine.{Object, acted, Entered, Left, Stored}
use Rattle.ir_object.specs.Word.{entered_word, left_by}
use Rattle.ir_object.specs.Cell.{Cell, Counts}

-- whether an entry is admitted
abbrev pub Admitted : Access → Fields → Type 0
Admitted Reading f = f.writer ≡ false
Admitted Writing f = (f.writer ≡ false) × (f.inside ≡ 0)

-- whether a thread is inside that may leave with this access
abbrev pub CanLeave : Access → Fields → Type 0
CanLeave Reading f = 0 < f.inside
CanLeave Writing f = f.writer ≡ true

-- an object of n threads that the code's object represents
pub record StandsFor (n : ℕ) (c : Cell) (b : Object) : Type 0 where
  pub version : c.fields.version ≡ b.version
  pub left : c.fields.left ≡ b.left
  pub inside : Counts n c.fields b.inside
  pub words : (i : ℕ) → i < most_object_words → slice_index c.words i ≡ b.words i

-- the word says who may enter and leave, and the code's object still represents the object after each step of a thread
pub record WordsStand : Type 0 where
  pub reads : (n : ℕ) (f : Fields) (inside : ℕ → Option Access) → Counts n f inside
      → Admitted Reading f ↔ ((u : ℕ) → inside u ≢ Some Writing)
  pub writes : (n : ℕ) (f : Fields) (inside : ℕ → Option Access) → Counts n f inside → Admitted Writing f ↔ ((u : ℕ) → inside u ≡ None)
  pub leaves : (n : ℕ) (f : Fields) (inside : ℕ → Option Access) (t : ℕ) (a : Access) → t < n → inside t ≡ Some a → Counts n f inside
      → CanLeave a f
  pub entry : (n : ℕ) (c : Cell) (b : Object) (t : ℕ) (a : Access) (v : ℕ) → t < n → b.inside t ≡ None → StandsFor n c b
      → StandsFor n (record c { fields = entered_word a c.fields }) (acted (Entered 0 a v) t b)
  pub exit : (n : ℕ) (c : Cell) (b : Object) (t : ℕ) (a : Access) → t < n → b.inside t ≡ Some a
      → (a ≡ Writing → (u : ℕ) → u ≢ t → b.inside u ≡ None) → StandsFor n c b
      → StandsFor n (record c { fields = left_by a c.fields }) (acted (Left 0 a) t b)
  pub store : (n : ℕ) (c : Cell) (b : Object) (t i v : ℕ) → length c.words ≡ most_object_words → i < most_object_words → StandsFor n c b
      → StandsFor n (record c { words = slice_set c.words i v }) (acted (Stored 0 i v) t b)
