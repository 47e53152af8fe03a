-- The word of an object.
use Rattle.std.specs.Prelude.{◌≡◌, ◌==◌, ℕ, ◌+◌, ◌-◌, ◌*◌, ◌/◌, ◌%◌, ◌^◌, ◌<◌, true, false, Bool, if◌then◌else◌}
use Rattle.ir_runs.specs.declared.access.Access.{Access}
use Rattle.ir_runs.specs.declared.access.Access.TheVariants.{Reading, Writing}
use Rattle.ir_object.specs.declared.fields.Fields.{Fields}

-- what each adds to the word: a reader who is inside, one who has left, and a version; a writer who is inside adds 1
abbrev pub reader_unit : ℕ
reader_unit = 2

abbrev pub left_unit : ℕ
left_unit = 2 ^ 7

abbrev pub version_unit : ℕ
version_unit = 2 ^ 32

-- more than may be inside for reading, and more than may have left, as the units have room for them
abbrev pub inside_limit : ℕ
inside_limit = left_unit / reader_unit

abbrev pub left_limit : ℕ
left_limit = version_unit / left_unit

-- what a reader adds to the word as it leaves: one more has left, and one less is inside
abbrev pub reader_leaves : ℕ
reader_leaves = left_unit - reader_unit

-- the fields are within their bits
pub record IsFields (f : Fields) : Type 0 where
  pub version : f.version < version_unit
  pub left : f.left < left_limit
  pub inside : f.inside < inside_limit

-- 1 where a writer is inside
abbrev pub bit_of : Bool → ℕ
bit_of writer = if writer then 1 else 0

-- the word that says so
abbrev pub word_of_object : Fields → ℕ
word_of_object f = f.version * version_unit + f.left * left_unit + f.inside * reader_unit + bit_of f.writer

-- what a word says
abbrev pub fields_of : ℕ → Fields
fields_of word = record {
  version = word / version_unit;
  left = word / left_unit % left_limit;
  inside = word / reader_unit % inside_limit;
  writer = word % reader_unit == 1;
}

-- what is said after an entry
abbrev pub entered_word : Access → Fields → Fields
entered_word Reading f = record f { inside = f.inside + 1 }
entered_word Writing f = record f { writer = true }

-- what is said after a reader has left; a writer leaves no thread inside, and a new version
abbrev pub left_by : Access → Fields → Fields
left_by Reading f = record f { left = f.left + 1; inside = f.inside - 1 }
left_by Writing f = record { version = f.version + 1; left = 0; inside = 0; writer = false }

-- fields and words are the same
abbrev pub OneWordEach : Type 0
OneWordEach = (f : Fields) → IsFields f → fields_of (word_of_object f) ≡ f

-- what an entry and a leave make of the word: a reader adds one inside and then takes it to those who have left, a writer adds 1, and
-- leaves the next version alone
pub record StepsOfWords : Type 0 where
  pub read : (f : Fields) → word_of_object (entered_word Reading f) ≡ word_of_object f + reader_unit
  pub read_left : (f : Fields) → 0 < f.inside → word_of_object (left_by Reading f) ≡ word_of_object f + reader_leaves
  pub written : (f : Fields) → f.writer ≡ false → word_of_object (entered_word Writing f) ≡ word_of_object f + 1
  pub write_left : (f : Fields) → word_of_object (left_by Writing f) ≡ (f.version + 1) * version_unit
