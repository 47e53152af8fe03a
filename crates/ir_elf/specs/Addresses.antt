-- What is at each address of a guest.
use Rattle.std.specs.Prelude.{ℕ, ◌+◌, ◌-◌, ◌*◌, ◌≤◌, ◌<◌, ◌⊎◌, nat_le, nat_lt, ◌&&◌, if◌then◌else◌, List, [], ◌∷◌, get_or, Option, Some, None}
use Rattle.byteorder.specs.Endian.{little_number}
use Rattle.ir_image.specs.Guest.{code_start, memory_start, memory_size}
use Rattle.ir_elf.specs.Layout.{table_start, table_size}
use Rattle.ir_elf.specs.Segments.{Segment, segment_address, segment_end}

-- the byte of a segment at an address, if the segment has this address: the file's, or 0 where only memory has it
abbrev pub byte_in : Segment → ℕ → Option ℕ
byte_in s a = if nat_le (segment_address s) a && nat_lt a (segment_end s) then Some (get_or s.bytes (a - segment_address s) 0) else None

-- a number, or else another
abbrev pub or_other : Option ℕ → Option ℕ → Option ℕ
or_other (Some b) other = Some b
or_other None other = other

-- the byte of the segment that has an address, if any has it
abbrev pub byte_of : List Segment → ℕ → Option ℕ
byte_of [] a = None
byte_of (s ∷ ss) a = or_other (byte_in s a) (byte_of ss a)

-- this byte, or 0
abbrev pub or_zero : Option ℕ → ℕ
or_zero (Some b) = b
or_zero None = 0

-- the byte at an address: 0 where no segment has it
abbrev pub elf_byte : List Segment → ℕ → ℕ
elf_byte segments a = or_zero (byte_of segments a)

-- the word of the four bytes from an address on
abbrev pub elf_word : List Segment → ℕ → ℕ
elf_word segments a =
    little_number 4 (elf_byte segments a ∷ elf_byte segments (a + 1) ∷ elf_byte segments (a + 2) ∷ elf_byte segments (a + 3) ∷ [])

-- an address in code of `words` words, in private memory, or in the table
abbrev pub IsInParts : ℕ → ℕ → Type 0
IsInParts words a =
    ((code_start ≤ a) × (a < code_start + 4 * words)) ⊎
    (((memory_start ≤ a) × (a < memory_start + memory_size)) ⊎ ((table_start ≤ a) × (a < table_start + table_size)))
