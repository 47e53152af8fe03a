-- The segments of a file: what is loaded into which part of a guest.
use Rattle.std.specs.Prelude.{ℕ, ◌+◌, ◌-◌, ◌/◌, ◌%◌, Bool, true, nat_le, nat_lt, ◌==◌, ◌&&◌, ◌||◌, if◌then◌else◌, List, [], ◌∷◌, Option, Some, None, Result, Ok, Err}
use Rattle.ir_bytes.specs.Reading.{◌>>=◌, bytes_at, fields_at}
use Rattle.ir_elf.specs.declared.part.Part.{Part}
use Rattle.ir_elf.specs.declared.part.Part.TheVariants.{Code, Memory, Table}
use Rattle.ir_elf.specs.declared.refusal.Refusal.{Refusal}
use Rattle.ir_elf.specs.declared.refusal.Refusal.TheVariants.{Short, Dynamic, Outside, Order, Writable}
use Rattle.ir_elf.specs.declared.header.Header.{Header}
use Rattle.ir_elf.specs.declared.segment.Segment as declared
use Rattle.ir_elf.specs.Layout.{table_start, layout_start, size_of}
use Rattle.ir_elf.specs.Refusal.{refusal_unless}
use Rattle.ir_elf.specs.Header.{headers_place_at, elf_header_at}

-- what is loaded into a part of a guest
pub record Segment : Type 0 where
  -- what it is loaded into
  pub part : Part
  -- how far from the start of the part it begins
  pub place : ℕ
  -- how many bytes it has in memory
  pub size : ℕ
  -- what the file holds of them, from the first
  pub bytes : List ℕ

-- a segment apart from where its bytes are
abbrev pub seen : declared.Segment → Segment
seen s = record { part = s.part; place = s.place; size = s.size; bytes = s.bytes.now }

-- the address of the first byte of a segment
abbrev pub segment_address : Segment → ℕ
segment_address s = layout_start s.part + s.place

-- the address after the last byte of a segment
abbrev pub segment_end : Segment → ℕ
segment_end s = layout_start s.part + s.place + s.size

-- ---- which part

-- `size` bytes from an address are within a part
abbrev pub is_within_segment : Part → ℕ → ℕ → Bool
is_within_segment part address size = nat_le (layout_start part) address && nat_le (address + size) (layout_start part + size_of part)

-- a segment of the table begins with it and is as long in the file as in memory
abbrev pub is_placed : Part → Header → Bool
is_placed Table h = h.address == table_start && h.length == h.size
is_placed Code h = true
is_placed Memory h = true

-- a segment of the code isn't writable, which bit 1 of its flags says
abbrev pub is_protected : Part → ℕ → Bool
is_protected Code flags = flags / 2 % 2 == 0
is_protected Memory flags = true
is_protected Table flags = true

-- the part that a segment is within, if it is within one
abbrev pub part_around : Header → Option Part
part_around h =
    if is_within_segment Code h.address h.size then Some Code else
    if is_within_segment Memory h.address h.size then Some Memory else
    if is_within_segment Table h.address h.size then Some Table else None

-- this part, if a segment may be there
abbrev pub part_placed : Header → Option Part → Result Part Refusal
part_placed h (Some part) = refusal_unless (is_placed part h) Outside (Ok part)
part_placed h None = Err Outside

-- the part into which a segment is loaded
abbrev pub part_of : Header → Result Part Refusal
part_of h = refusal_unless (nat_le h.length h.size) Outside (part_placed h (part_around h))

-- ---- one segment

-- `length` bytes from a place of the file on
unfoldable pub segment_bytes_from : ℕ → ℕ → List ℕ → Result (List ℕ) Refusal
segment_bytes_from place length file = do
  before ← bytes_at Short place file
  own ← bytes_at Short length before.1
  Ok own.0

-- the segment of a header, after segments that end at an address
unfoldable pub segment_at : List ℕ → ℕ → Header → Result Segment Refusal
segment_at file last h = do
  own ← segment_bytes_from h.place h.length file
  part ← part_of h
  refusal_unless (nat_le last h.address) Order (refusal_unless (is_protected part h.flags) Writable
      (Ok (record { part = part; place = h.address - layout_start part; size = h.size; bytes = own })))

-- dynamic, an interpreter, or thread-local
abbrev pub is_refused : ℕ → Bool
is_refused kind = kind == 2 || kind == 3 || kind == 7

-- of a kind that is loaded, and some bytes of memory
abbrev pub is_loaded : Header → Bool
is_loaded h = h.kind == 1 && nat_lt 0 h.size

-- the segment of a header that is loaded, after segments that end at an address
abbrev pub loaded_at : List ℕ → ℕ → Header → Result (Option Segment) Refusal
loaded_at file last h =
    if is_refused h.kind then Err Dynamic else
    if is_loaded h then (segment_at file last h >>= λ s. Ok (Some s)) else Ok None

-- ---- all segments

-- where the segments end after one more, if there is one
abbrev pub end_after : ℕ → Option Segment → ℕ
end_after last None = last
end_after last (Some s) = segment_end s

-- one more segment, if there is one
abbrev pub with_first_segment : Option Segment → List Segment → List Segment
with_first_segment None others = others
with_first_segment (Some s) others = s ∷ others

-- the segments of headers, after segments that end at an address
abbrev pub segments_from : List ℕ → ℕ → List Header → Result (List Segment) Refusal
segments_from file last [] = Ok []
segments_from file last (h ∷ hs) = do
  first ← loaded_at file last h
  others ← segments_from file (end_after last first) hs
  Ok (with_first_segment first others)

-- the segments of a file: all program headers are whole before the first is tested
unfoldable pub segments_at : List ℕ → Result (List Segment) Refusal
segments_at file = do
  found ← headers_place_at file
  before ← bytes_at Short found.place file
  headers ← fields_at elf_header_at found.number before.1
  segments_from file 0 headers.0
