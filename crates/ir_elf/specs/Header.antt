-- The header of a file, and the headers of its segments, field by field.
use Rattle.std.specs.Prelude.{ℕ, List, Result, Ok}
use Rattle.ir_bytes.specs.Reading.{◌>>=◌, Reader, Field, within, number_at, field_at, bytes_at}
use Rattle.ir_bytes.specs.Format.{fixed}
use Rattle.ir_elf.specs.declared.refusal.Refusal.{Refusal}
use Rattle.ir_elf.specs.declared.refusal.Refusal.TheVariants.{Short, Magic, Class, Kind, Flags, Headers}
use Rattle.ir_elf.specs.declared.header.HeadersPlace.{HeadersPlace}
use Rattle.ir_elf.specs.declared.header.Header.{Header}

-- ---- the fields that are tested

-- 7F 45 4C 46
abbrev pub magic_field : Field Refusal
magic_field = fixed 4 0x464C457F Magic

-- 32 bits; little-endian; version 1
abbrev pub class_field : Field Refusal
class_field = fixed 1 1 Class

-- a linked program
abbrev pub linked_field : Field Refusal
linked_field = fixed 2 2 Kind

-- for RISC-V
abbrev pub machine_field : Field Refusal
machine_field = fixed 2 243 Kind

-- version 1
abbrev pub version_field : Field Refusal
version_field = fixed 4 1 Kind

-- no compressed instructions, no floating-point registers, not RV32E, no other memory order
abbrev pub flags_field : Field Refusal
flags_field = fixed 4 0 Flags

-- the bytes of a program header
abbrev pub size_field : Field Refusal
size_field = fixed 2 32 Headers

-- how many program headers there are
abbrev pub number_field : Field Refusal
number_field = within 2 1 64 Headers

-- ---- the header of a file

-- bytes 0 to 6: the magic, the class, the order of bytes, the version; and the bytes after them
unfoldable pub identified : List ℕ → Result (List ℕ) Refusal
identified bytes = do
  magic ← field_at Short magic_field bytes
  class ← field_at Short class_field magic.1
  order ← field_at Short class_field class.1
  version ← field_at Short class_field order.1
  Ok version.1

-- bytes 7 to 23: nine that aren't read, the kind of file, the machine, the version; and the bytes after them
unfoldable pub kind_known : List ℕ → Result (List ℕ) Refusal
kind_known bytes = do
  unread ← bytes_at Short 9 bytes
  kind ← field_at Short linked_field unread.1
  machine ← field_at Short machine_field kind.1
  version ← field_at Short version_field machine.1
  Ok version.1

-- bytes 24 to 45: the entry, the program headers' place, the sections' place, the flags, the size of this header, the size and the
-- number of the program headers. The entry, the sections' place and the size of this header aren't read
unfoldable pub headers_found : List ℕ → Result HeadersPlace Refusal
headers_found bytes = do
  entry ← bytes_at Short 4 bytes
  place ← number_at Short 4 entry.1
  sections ← bytes_at Short 4 place.1
  flags ← field_at Short flags_field sections.1
  own ← bytes_at Short 2 flags.1
  size ← field_at Short size_field own.1
  number ← field_at Short number_field size.1
  Ok (record { place = place.0; number = number.0 })

-- where the program headers of a file are
unfoldable pub headers_place_at : List ℕ → Result HeadersPlace Refusal
headers_place_at file = identified file >>= λ kind. kind_known kind >>= λ rest. headers_found rest

-- ---- the headers of segments

-- a program header: its kind, where its bytes are in the file, its address, a physical address, how many bytes it has in the file and in
-- memory, its flags, an alignment. The physical address and the alignment aren't read
unfoldable pub elf_header_at : Reader Header Refusal
elf_header_at bytes = do
  kind ← number_at Short 4 bytes
  place ← number_at Short 4 kind.1
  address ← number_at Short 4 place.1
  physical ← bytes_at Short 4 address.1
  length ← number_at Short 4 physical.1
  size ← number_at Short 4 length.1
  flags ← number_at Short 4 size.1
  alignment ← bytes_at Short 4 flags.1
  Ok (record { kind = kind.0; place = place.0; address = address.0; length = length.0; size = size.0; flags = flags.0 }, alignment.1)
