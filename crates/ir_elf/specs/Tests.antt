-- The tests of an ELF file, each field named by its place; the first that fails names the refusal.
use Rattle.std.specs.Prelude.{◌≡◌, ℕ, zero, suc, ◌+◌, ◌-◌, ◌*◌, Bool, true, false, not, nat_le, nat_lt, ◌==◌, ◌&&◌, if◌then◌else◌, List, [], ◌∷◌, length, take, drop, Option, Some, None}
use Rattle.byteorder.specs.Endian.{little_number}
use Rattle.ir_image.specs.declared.form.ImageForm.{ImageForm}
use Rattle.ir_image.specs.Guest.{limits_of}
use Rattle.ir_image.specs.Fields.{is_place}
use Rattle.ir_elf.specs.declared.part.Part.{Part}
use Rattle.ir_elf.specs.declared.part.Part.TheVariants.{Code, Memory, Table}
use Rattle.ir_elf.specs.declared.refusal.Refusal.{Refusal}
use Rattle.ir_elf.specs.declared.refusal.Refusal.TheVariants as refusal
use Rattle.ir_elf.specs.declared.header.Header.{Header}
use Rattle.ir_elf.specs.Layout.{layout_start}
use Rattle.ir_elf.specs.Segments.{Segment, segment_end, is_within_segment, is_placed, is_protected, is_refused, is_loaded}
use Rattle.ir_elf.specs.Memory.{table_of}
use Rattle.ir_elf.specs.Table.{table_form, are_objects}
use Rattle.ir_elf.specs.Reading.{code_words}

-- a test, and the refusal where it fails
pub record Test : Type 0 where
  pub passes : Bool
  pub refusal : Refusal

-- the refusal of the first test that fails
abbrev pub first_failed : List Test → Option Refusal
first_failed [] = None
first_failed (t ∷ ts) = if t.passes then first_failed ts else Some t.refusal

-- a test before others
abbrev pub test : Bool → Refusal → List Test → List Test
test passes r others = record { passes = passes; refusal = r } ∷ others

-- `size` bytes from a place on are there
abbrev pub is_whole : List ℕ → ℕ → ℕ → Bool
is_whole bytes place size = nat_le (place + size) (length bytes)

-- the number of `size` bytes from a place on
abbrev pub field_number : List ℕ → ℕ → ℕ → ℕ
field_number bytes place size = little_number size (drop place bytes)

-- a field is whole, and its number passes
abbrev pub field : Refusal → List ℕ → ℕ → ℕ → (ℕ → Bool) → Refusal → List Test → List Test
field missing bytes place size passes r others = test (is_whole bytes place size) missing (test (passes (field_number bytes place size)) r others)

-- ---- the header of the file

-- where the program headers begin
abbrev pub headers_place : List ℕ → ℕ
headers_place file = field_number file 28 4

-- how many program headers there are
abbrev pub headers_number : List ℕ → ℕ
headers_number file = field_number file 44 2

-- the header of the file, and all program headers are there
abbrev pub header_tests : List ℕ → List Test → List Test
header_tests file others =
    field refusal.Short file 0 4 (λ n. n == 0x464C457F) refusal.Magic
    (field refusal.Short file 4 1 (λ n. n == 1) refusal.Class
    (field refusal.Short file 5 1 (λ n. n == 1) refusal.Class
    (field refusal.Short file 6 1 (λ n. n == 1) refusal.Class
    (field refusal.Short file 16 2 (λ n. n == 2) refusal.Kind
    (field refusal.Short file 18 2 (λ n. n == 243) refusal.Kind
    (field refusal.Short file 20 4 (λ n. n == 1) refusal.Kind
    (test (is_whole file 28 4) refusal.Short
    (field refusal.Short file 36 4 (λ n. n == 0) refusal.Flags
    (field refusal.Short file 42 2 (λ n. n == 32) refusal.Headers
    (field refusal.Short file 44 2 (λ n. nat_le 1 n && nat_le n 64) refusal.Headers
    (test (is_whole file (headers_place file) (32 * headers_number file)) refusal.Short others)))))))))))

-- ---- the program headers

-- the program header at a place
abbrev pub header_in : List ℕ → ℕ → Header
header_in file place = record {
  kind = field_number file place 4;
  place = field_number file (place + 4) 4;
  address = field_number file (place + 8) 4;
  length = field_number file (place + 16) 4;
  size = field_number file (place + 20) 4;
  flags = field_number file (place + 24) 4;
}

-- n program headers from a place on
abbrev pub headers_in : List ℕ → ℕ → ℕ → List Header
headers_in file place zero = []
headers_in file place (suc n) = header_in file place ∷ headers_in file (place + 32) n

-- the part that a segment is within, if it is within one
abbrev pub part_in : Header → Part
part_in h = if is_within_segment Code h.address h.size then Code else if is_within_segment Memory h.address h.size then Memory else Table

-- what is loaded by a header
abbrev pub segment_in : List ℕ → Header → Segment
segment_in file h = record {
  part = part_in h;
  place = h.address - layout_start (part_in h);
  size = h.size;
  bytes = take h.length (drop h.place file);
}

-- what is loaded by headers
abbrev pub segments_in : List ℕ → List Header → List Segment
segments_in file [] = []
segments_in file (h ∷ hs) = if is_loaded h then segment_in file h ∷ segments_in file hs else segments_in file hs

-- a header of a segment that is loaded, after segments that end at an address
abbrev pub loaded_tests : List ℕ → ℕ → Header → List Test → List Test
loaded_tests file last h others =
    test (is_whole file h.place h.length) refusal.Short
    (test (nat_le h.length h.size) refusal.Outside
    (test (is_within_segment (part_in h) h.address h.size && is_placed (part_in h) h) refusal.Outside
    (test (nat_le last h.address) refusal.Order
    (test (is_protected (part_in h) h.flags) refusal.Writable others))))

-- each header in turn, after segments that end at an address
abbrev pub segment_tests : List ℕ → ℕ → List Header → List Test → List Test
segment_tests file last [] others = others
segment_tests file last (h ∷ hs) others =
    test (not (is_refused h.kind)) refusal.Dynamic
    (if is_loaded h then loaded_tests file last h (segment_tests file (segment_end (segment_in file h)) hs others)
    else segment_tests file last hs others)

-- ---- the table

-- n entries from a place on, into code of `code` words
abbrev pub entry_tests : List ℕ → ℕ → ℕ → ℕ → List Test → List Test
entry_tests table code place zero others = others
entry_tests table code place (suc n) others =
    field refusal.Table table place 4 (is_place code) refusal.Entry (entry_tests table code (place + 4) n others)

-- the form of a table
abbrev pub form_in : List ℕ → ImageForm
form_in table = table_form (field_number table 0 4)

-- the table of a guest with `code` words of code
abbrev pub table_tests : ℕ → List ℕ → List Test
table_tests code table =
    field refusal.Table table 0 4 (λ n. nat_le 1 n && nat_le n 2) refusal.Table
    (field refusal.Table table 4 4 (λ n. nat_le 1 n && nat_le n (limits_of (form_in table)).threads) refusal.Table
    (entry_tests table code 8 (field_number table 4 4)
    (test (are_objects (form_in table) (length (drop (8 + 4 * field_number table 4 4) table))) refusal.Table [])))

-- the tests of the table, if there is one
abbrev pub found_tests : ℕ → Option (List ℕ) → List Test
found_tests code (Some table) = test true refusal.NoTable (table_tests code table)
found_tests code None = test false refusal.NoTable []

-- the code is there, and the table
abbrev pub guest_tests : List Segment → List Test
guest_tests segments = test (nat_lt 0 (code_words segments)) refusal.NoCode (found_tests (code_words segments) (table_of segments))

-- ---- all tests

-- the tests of a file: its header, each program header in turn, and the table
abbrev pub elf_tests : List ℕ → List Test
elf_tests file =
    header_tests file (segment_tests file 0 (headers_in file (headers_place file) (headers_number file))
    (guest_tests (segments_in file (headers_in file (headers_place file) (headers_number file)))))

-- an ELF file that is a guest: no test fails
abbrev pub IsElfGuest : List ℕ → Type 0
IsElfGuest file = first_failed (elf_tests file) ≡ None
