-- The parts of a guest, and where each begins.
use Rattle.std.specs.Prelude.{ℕ, ◌*◌}
use Rattle.ir_image.specs.Guest.{code_start, memory_start, memory_size, most_code_words}
use Rattle.ir_elf.specs.declared.part.Part.{Part}
use Rattle.ir_elf.specs.declared.part.Part.TheVariants.{Code, Memory, Table}

-- the address of the first byte of the table
abbrev pub table_start : ℕ
table_start = 0x00200000

-- the most bytes of the table: its form, a number of threads, sixteen entries, and 64 objects of sixteen words
abbrev pub table_size : ℕ
table_size = 4168

-- the address of the first byte of a part
abbrev pub layout_start : Part → ℕ
layout_start Code = code_start
layout_start Memory = memory_start
layout_start Table = table_start

-- the most bytes of a part
abbrev pub size_of : Part → ℕ
size_of Code = 4 * most_code_words
size_of Memory = memory_size
size_of Table = table_size
