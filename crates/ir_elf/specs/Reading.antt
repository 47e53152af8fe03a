-- The guest of an ELF file, or the first test that fails.
use Rattle.std.specs.Prelude.{ℕ, ◌+◌, ◌*◌, ◌/◌, nat_lt, List, take, Option, Some, None, Result, Ok, Err}
use Rattle.ir_bytes.specs.Reading.{◌>>=◌}
use Rattle.ir_image.specs.Guest.{Guest}
use Rattle.ir_elf.specs.declared.part.Part.TheVariants.{Code, Memory}
use Rattle.ir_elf.specs.declared.refusal.Refusal.{Refusal}
use Rattle.ir_elf.specs.declared.refusal.Refusal.TheVariants.{NoCode, NoTable}
use Rattle.ir_elf.specs.Refusal.{refusal_unless}
use Rattle.ir_elf.specs.Segments.{Segment, segments_at}
use Rattle.ir_elf.specs.Memory.{memory_of, size_in, held_in, greatest, memory_bytes_from, table_of, words_in}
use Rattle.ir_elf.specs.Table.{TableParts, table_at}

-- the code's part of memory
abbrev pub code_memory : List Segment → List ℕ
code_memory segments = memory_of Code segments

-- how many words of code there are: up to the end of the last segment, the last word whole
abbrev pub code_words : List Segment → ℕ
code_words segments = (greatest (size_in Code) segments + 3) / 4

-- how many bytes of data there are: up to the last that the file holds
abbrev pub data_bytes : List Segment → ℕ
data_bytes segments = greatest (held_in Memory) segments

-- what the table says, if there is one
abbrev pub table_found : ℕ → Option (List ℕ) → Result TableParts Refusal
table_found code (Some table) = table_at code table
table_found code None = Err NoTable

-- the guest of segments
unfoldable pub guest_of : List Segment → Result Guest Refusal
guest_of segments = refusal_unless (nat_lt 0 (code_words segments)) NoCode (table_found (code_words segments) (table_of segments) >>= λ t. Ok (record {
  form = t.form;
  entries = t.entries;
  code = words_in (take (4 * code_words segments) (code_memory segments));
  bytes = take (data_bytes segments) (memory_of Memory segments);
  words = t.words;
}))

-- the guest of a file
unfoldable pub elf_guest_at : List ℕ → Result Guest Refusal
elf_guest_at file = segments_at file >>= λ segments. guest_of segments

-- how many bytes of variables each thread of the guest of segments has for itself: those of private memory, without the stack, which no segment has
abbrev pub own_bytes : List Segment → ℕ
own_bytes segments = memory_bytes_from 0 Memory segments

-- the same of a file's guest
unfoldable pub own_bytes_at : List ℕ → Result ℕ Refusal
own_bytes_at file = segments_at file >>= λ segments. Ok (own_bytes segments)
