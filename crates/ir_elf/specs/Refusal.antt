-- The numbers of the refusals, and what an answer says of a reading.
use Rattle.std.specs.Prelude.{◌≡◌, ℕ, Bool, List, codes, Result, Ok, Err, if◌then◌else◌}
use Rattle.ir_elf.specs.declared.refusal.Refusal.{Refusal}
use Rattle.ir_elf.specs.declared.refusal.Refusal.TheVariants.{Short, Magic, Class, Kind, Flags, Headers, Dynamic, Outside, Order, Writable, NoCode, NoTable, Table, Entry}
use Rattle.ir_elf.specs.declared.elf_err.ElfErr.{ElfErr}
use Rattle.ir_elf.specs.declared.elf_err.ElfErr.TheVariants.{Refused, NoMem}

-- the number that a refusal goes by
abbrev pub elf_refusal_number : Refusal → ℕ
elf_refusal_number Short = 1
elf_refusal_number Magic = 2
elf_refusal_number Class = 3
elf_refusal_number Kind = 4
elf_refusal_number Flags = 5
elf_refusal_number Headers = 6
elf_refusal_number Dynamic = 7
elf_refusal_number Outside = 8
elf_refusal_number Order = 9
elf_refusal_number Writable = 10
elf_refusal_number NoCode = 11
elf_refusal_number NoTable = 12
elf_refusal_number Table = 13
elf_refusal_number Entry = 14

-- a refusal in words
abbrev pub refusal_words : Refusal → List ℕ
refusal_words Short = codes "a field or a segment passes the end of the file"
refusal_words Magic = codes "the file is no ELF file"
refusal_words Class = codes "the file isn't of 32 bits, little-endian, version 1"
refusal_words Kind = codes "the file is no linked RISC-V program"
refusal_words Flags = codes "the flags name compressed instructions, floating-point registers, RV32E or another memory order"
refusal_words Headers = codes "the program headers aren't of 32 bytes, or they aren't 1 to 64"
refusal_words Dynamic = codes "the program is dynamic, wants an interpreter or has thread-local variables"
refusal_words Outside = codes "a segment isn't within the code's, the memory's or the table's addresses"
refusal_words Order = codes "a segment begins before the end of the one before it"
refusal_words Writable = codes "a segment of the code is writable"
refusal_words NoCode = codes "there is no code"
refusal_words NoTable = codes "there is no table of threads and objects"
refusal_words Table = codes "the table has no known form, a wrong number of threads, or no whole objects"
refusal_words Entry = codes "a thread's entry is no place in the code"

-- a step after a test, which is refused where the test fails
abbrev pub refusal_unless : {A : Type 0} → Bool → Refusal → Result A Refusal → Result A Refusal
refusal_unless passes refusal step = if passes then step else Err refusal

-- an answer, seen by a view, is what reading gives, unless memory ran out
abbrev pub YieldsOrRefuses : {X Y : Type 0} → (X → Y) → Result X ElfErr → Result Y Refusal → Type 0
YieldsOrRefuses view (Ok x) read = read ≡ Ok (view x)
YieldsOrRefuses view (Err (Refused refusal)) read = read ≡ Err refusal
YieldsOrRefuses view (Err NoMem) read = Unit {0}
