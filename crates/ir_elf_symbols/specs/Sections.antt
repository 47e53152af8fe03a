-- The sections of an ELF file of 32 bits, little-endian, by the System V Application Binary Interface. What isn't in the file reads as 0.
use Rattle.std.specs.Prelude.{ℕ, zero, suc, ◌+◌, ◌*◌, ◌^◌, ◌==◌, List, Option, Some, None, if◌then◌else◌}
use Rattle.std.specs.List.{slice_index_or}
use Rattle.ir_elf_symbols.specs.declared.section.Section.{Section}

-- the byte at a place, the two bytes from there on as a number, and the four
abbrev pub section_byte : List ℕ → ℕ → ℕ
section_byte file place = slice_index_or file place 0

abbrev pub half_at : List ℕ → ℕ → ℕ
half_at file place = section_byte file place + 2 ^ 8 * section_byte file (place + 1)

abbrev pub section_word : List ℕ → ℕ → ℕ
section_word file place = half_at file place + 2 ^ 16 * half_at file (place + 2)

-- where the header of section k begins
abbrev pub section_header_of : List ℕ → ℕ → ℕ
section_header_of file k = section_word file 32 + 40 * k

-- section k: its kind, where its bytes are in the file, how many they are, and the number of the section that belongs to it
abbrev pub section_at : List ℕ → ℕ → Section
section_at file k = record {
  kind = section_word file (section_header_of file k + 4);
  place = section_word file (section_header_of file k + 16);
  size = section_word file (section_header_of file k + 20);
  link = section_word file (section_header_of file k + 24);
}

-- how many sections there are, if their headers have 40 bytes
abbrev pub section_count : List ℕ → ℕ
section_count file = if half_at file 46 == 40 then half_at file 48 else 0

-- a section, or else another
abbrev pub or_else : Option Section → Option Section → Option Section
or_else (Some section) other = Some section
or_else None other = other

-- a section, if it is a table of symbols
abbrev pub if_table : Section → Option Section
if_table section = if section.kind == 2 then Some section else None

-- the first of the first n sections that is a table of symbols
unfoldable pub first_table : List ℕ → ℕ → Option Section
first_table file zero = None
first_table file (suc n) = or_else (first_table file n) (if_table (section_at file n))

-- the table of the file's symbols, if it has one
abbrev pub symbol_table : List ℕ → Option Section
symbol_table file = first_table file (section_count file)
