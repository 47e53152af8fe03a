-- The table: which threads and objects there are.
use Rattle.std.specs.Prelude.{ℕ, ◌*◌, ◌%◌, Bool, nat_le, ◌==◌, ◌&&◌, if◌then◌else◌, List, ◌++◌, length, Result, Ok}
use Rattle.byteorder.specs.Endian.{little_bytes}
use Rattle.ir_bytes.specs.Reading.{◌>>=◌, Reader, Field, tested, within, field_at, fields_at}
use Rattle.ir_image.specs.declared.form.ImageForm.{ImageForm}
use Rattle.ir_image.specs.declared.form.ImageForm.TheVariants.{Small, Large}
use Rattle.ir_image.specs.Guest.{limits_of, Guest}
use Rattle.ir_image.specs.Fields.{is_place}
use Rattle.ir_image.specs.Encoding.{words_encoding}
use Rattle.ir_elf.specs.declared.refusal.Refusal.{Refusal}
use Rattle.ir_elf.specs.declared.refusal.Refusal.TheVariants.{Table, Entry}
use Rattle.ir_elf.specs.Refusal.{refusal_unless}
use Rattle.ir_elf.specs.Memory.{words_in}

-- what a table says
pub record TableParts : Type 0 where
  pub form : ImageForm
  -- each thread's first pc
  pub entries : List ℕ
  -- the first words of the objects
  pub words : List ℕ

-- the form: 1 is small, 2 is large
abbrev pub form_field : Field Refusal
form_field = within 4 1 2 Table

-- the form of this number
abbrev pub table_form : ℕ → ImageForm
table_form n = if n == 2 then Large else Small

-- the number of threads
abbrev pub threads_field : ImageForm → Field Refusal
threads_field form = within 4 1 (limits_of form).threads Table

-- an entry: a place in code of `words` words
abbrev pub table_entry_field : ℕ → Field Refusal
table_entry_field words = tested 4 (is_place words) Entry

-- an entry into code of `words` words, and the bytes after it
abbrev pub table_entry_at : ℕ → Reader ℕ Refusal
table_entry_at words = field_at Table (table_entry_field words)

-- `count` bytes are those of whole objects, and not of too many
abbrev pub are_objects : ImageForm → ℕ → Bool
are_objects form count =
    count % (4 * (limits_of form).words) == 0 && nat_le count (4 * ((limits_of form).words * (limits_of form).objects))

-- the form, the number of threads, their entries into code of `code` words, and the objects' first words
unfoldable pub table_at : ℕ → List ℕ → Result TableParts Refusal
table_at code bytes = do
  form ← field_at Table form_field bytes
  threads ← field_at Table (threads_field (table_form form.0)) form.1
  entries ← fields_at (table_entry_at code) threads.0 threads.1
  refusal_unless (are_objects (table_form form.0) (length entries.1)) Table (Ok
      (record { form = table_form form.0; entries = entries.0; words = words_in entries.1 }))

-- ---- the same, written

-- the number of a form
abbrev pub table_number : ImageForm → ℕ
table_number Small = 1
table_number Large = 2

-- the form of a guest, how many threads it has, their entries, and the objects' first words
abbrev pub table_encoding : Guest → List ℕ
table_encoding g =
    little_bytes 4 (table_number g.form) ++ (little_bytes 4 (length g.entries) ++ (words_encoding g.entries ++ words_encoding g.words))
