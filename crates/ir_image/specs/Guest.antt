-- A guest: what an image holds, however the code keeps it, and how it is read from bytes.
use Rattle.std.specs.Prelude.{ℕ, ◌+◌, ◌-◌, ◌*◌, ◌/◌, List, length, ◌++◌, take, drop, replicate, ◌==◌, [], ◌∷◌, if◌then◌else◌, slice_get, nat_le, Option, Some, None, ◌%◌, Result, Ok, Err, nat_lt, ◌&&◌}
use Rattle.ir_image.specs.declared.form.ImageForm.{ImageForm}
use Rattle.byteorder.specs.Endian.{little_number}
use Rattle.ir_image.specs.declared.form.ImageForm.TheVariants.{Small, Large}
use Rattle.ir_image.specs.declared.form.Limits.{Limits}
use Rattle.ir_isa.specs.declared.inst.Inst.{Inst}
use Rattle.ir_isa.specs.Decoded.{instruction_of}
use Rattle.ir_image.specs.declared.fetched.Fetched.{Fetched}
use Rattle.ir_image.specs.declared.fetched.Fetched.TheVariants.{Outside, Illegal, Found}
use Rattle.ir_bytes.specs.Reading.{◌>>=◌, Reader, tested, within, number_at, field_at, bytes_at, fields_at}
use Rattle.ir_image.specs.declared.counts.Counts.{Counts}
use Rattle.ir_image.specs.declared.image_err.ImageErr.{ImageErr}
use Rattle.ir_image.specs.declared.image_err.ImageErr.TheVariants.{Short, Magic, Count, Entry, Trailing, NoMem}

pub record Guest : Type 0 where
  -- how many threads, objects and words of an object it may have
  pub form : ImageForm
  -- each thread's first pc
  pub entries : List ℕ
  -- the words of the code
  pub code : List ℕ
  -- what private memory begins with
  pub bytes : List ℕ
  -- the first words of the objects, as many of each as the form says
  pub words : List ℕ

-- the address of the first word of the code
abbrev pub code_start : ℕ
code_start = 0x00010000

-- the first address of private memory
abbrev pub memory_start : ℕ
memory_start = 0x00100000

-- the bytes of private memory
abbrev pub memory_size : ℕ
memory_size = 0x00010000

-- the most words of code
abbrev pub most_code_words : ℕ
most_code_words = 16384

-- the most threads, the most objects, and the number of words of each object
abbrev pub limits_of : ImageForm → Limits
limits_of Small = record { threads = 8; objects = 16; words = 8 }
limits_of Large = record { threads = 16; objects = 64; words = 16 }

-- the number of words of each object
abbrev pub object_words : Guest → ℕ
object_words g = (limits_of g.form).words

-- the number of objects
abbrev pub object_count : Guest → ℕ
object_count g = length g.words / object_words g

-- words, and 0 after them up to `count` words
abbrev pub padded_to : ℕ → List ℕ → List ℕ
padded_to count words = words ++ replicate (count - length words) 0

-- the most words of an object of any form
abbrev pub most_object_words : ℕ
most_object_words = 16

-- what an object's words are at the start: its first words, and 0 after them
abbrev pub first_words : Guest → ℕ → List ℕ
first_words g o = padded_to most_object_words (take (object_words g) (drop (object_words g * o) g.words))

-- the most threads of any form
abbrev pub most_threads : ℕ
most_threads = 16

-- the most objects of any form
abbrev pub most_objects : ℕ
most_objects = 64

-- what an image of the form begins with: `IRI1` or `IRI2`
abbrev pub image_magic : ImageForm → List ℕ
image_magic Small = 0x49 ∷ 0x52 ∷ 0x49 ∷ 0x31 ∷ []
image_magic Large = 0x49 ∷ 0x52 ∷ 0x49 ∷ 0x32 ∷ []

-- the number of these bytes
abbrev pub magic_number : ImageForm → ℕ
magic_number form = little_number 4 (image_magic form)

-- the form whose number this is; small for a number of none
abbrev pub form_of : ℕ → ImageForm
form_of number = if number == magic_number Large then Large else Small

-- the word of the code in which the address lies, if there is one
abbrev pub word_at_pc : List ℕ → ℕ → Option ℕ
word_at_pc code pc = if nat_le code_start pc then slice_get code ((pc - code_start) / 4) else None

-- what is fetched where a word is this instruction, or none
abbrev pub decoded : Option Inst → Fetched
decoded (Some i) = Found i
decoded None = Illegal

-- what is fetched where this word is, or none
abbrev pub fetched_word : Option ℕ → Fetched
fetched_word (Some word) = decoded (instruction_of word)
fetched_word None = Outside

-- the instruction at a pc
abbrev pub fetched : List ℕ → ℕ → Fetched
fetched code pc = fetched_word (word_at_pc code pc)

-- ---- reading from the left: each field is read whole and then tested, and the first fault is named

-- the form that the magic names, and the bytes after it
unfoldable pub form_at : Reader ImageForm ImageErr
form_at bytes = field_at Short (tested 4 (λ n. n == magic_number (form_of n)) Magic) bytes >>= λ n. Ok (form_of n.0, n.1)

-- the form, and how many threads, objects, words of code and bytes of data there are
unfoldable pub counts_at : Reader Counts ImageErr
counts_at bytes = do
  form ← form_at bytes
  threads ← field_at Short (within 1 1 (limits_of form.0).threads Count) form.1
  objects ← field_at Short (within 1 0 (limits_of form.0).objects Count) threads.1
  words ← field_at Short (within 4 0 most_code_words Count) objects.1
  bytes ← field_at Short (within 4 0 memory_size Count) words.1
  Ok (record { form = form.0; threads = threads.0; objects = objects.0; words = words.0; bytes = bytes.0 }, bytes.1)

-- the entries, the code, the data, the objects' first words, and nothing after them
unfoldable pub body_at : Counts → List ℕ → Result Guest ImageErr
body_at c bytes = do
  entries ← fields_at (field_at Short (tested 4 (λ n. (n % 4 == 0) && (nat_le code_start n && nat_lt n (code_start + 4 * c.words))) Entry)) c.threads bytes
  code ← fields_at (number_at Short 4) c.words entries.1
  initial ← bytes_at Short c.bytes code.1
  words ← fields_at (number_at Short 4) ((limits_of c.form).words * c.objects) initial.1
  if length words.1 == 0 then Ok
      (record { form = c.form; entries = entries.0; code = code.0; bytes = initial.0; words = words.0 }) else Err Trailing

-- the whole image
unfoldable pub guest_at : List ℕ → Result Guest ImageErr
guest_at bytes = counts_at bytes >>= λ c. body_at c.0 c.1

-- the number that a fault of the bytes goes by; running out of memory is no fault of theirs
abbrev pub image_fault_number : ImageErr → Option ℕ
image_fault_number Short = Some 1
image_fault_number Magic = Some 2
image_fault_number Count = Some 3
image_fault_number Entry = Some 4
image_fault_number Trailing = Some 5
image_fault_number NoMem = None
