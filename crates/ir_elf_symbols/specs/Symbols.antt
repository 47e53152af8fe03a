-- The symbols of an ELF file that name addresses.
use Rattle.std.specs.Prelude.{ℕ, zero, suc, ◌+◌, ◌*◌, ◌/◌, ◌%◌, ◌==◌, ◌||◌, ◌&&◌, nat_le, nat_lt, not, Bool, List, [], ◌∷◌, ◌++◌, length}
use Rattle.std.specs.Prelude.{take, drop, position, unwrap_or, Option, Some, None, if◌then◌else◌}
use Rattle.std.specs.List.{slice_index_or}
use Rattle.ir_symbols.specs.Symbols.{Symbol, symbol_of}
use Rattle.ir_elf_symbols.specs.Sections.{section_byte, half_at, section_word, section_at, symbol_table}
use Rattle.ir_elf_symbols.specs.declared.section.Section.{Section}

-- the bytes from a place on, up to the first that is 0
abbrev pub text_at : List ℕ → ℕ → List ℕ
text_at file place = take (unwrap_or (position (λ b. b == 0) (drop place file)) (length (drop place file))) (drop place file)

-- a name that a compiler or an assembler made for itself: it begins with `$` or `.`
abbrev pub is_made : List ℕ → Bool
is_made name = slice_index_or name 0 0 == 36 || slice_index_or name 0 0 == 46

-- a symbol of no type, of a variable or of a function, that some section of the file has
abbrev pub names_place : ℕ → ℕ → Bool
names_place info section = nat_le (info % 16) 2 && (nat_lt 0 section && nat_lt section 0xff00)

-- the letter for a function, and for anything else
abbrev pub kind_of : ℕ → ℕ
kind_of info = if info % 16 == 2 then 84 else 68

-- a symbol of this address, information, section and name, if it names a place and its name is one of a map's
abbrev pub elf_symbol_by : ℕ → ℕ → ℕ → List ℕ → Option Symbol
elf_symbol_by address info section name =
    if names_place info section && not (is_made name) then symbol_of address (kind_of info) name else None

-- entry k of a table of symbols whose names begin at this place
abbrev pub symbol_at : List ℕ → ℕ → ℕ → ℕ → Option Symbol
symbol_at file table names k = elf_symbol_by (section_word file (table + 16 * k + 4)) (section_byte file (table + 16 * k + 12)) (half_at file (table + 16 * k + 14))
    (text_at file (names + section_word file (table + 16 * k)))

-- a symbol, if there is one, in a list
abbrev pub listed_symbols : Option Symbol → List Symbol
listed_symbols (Some symbol) = symbol ∷ []
listed_symbols None = []

-- the symbols of the first n entries
unfoldable pub first_symbols : List ℕ → ℕ → ℕ → ℕ → List Symbol
first_symbols file table names zero = []
first_symbols file table names (suc n) = first_symbols file table names n ++ listed_symbols (symbol_at file table names n)

-- the symbols of a table, if the file has all of it
abbrev pub symbols_in : List ℕ → Section → List Symbol
symbols_in file table = if nat_le (table.place + table.size) (length file)
    then first_symbols file table.place (section_at file table.link).place (table.size / 16) else []

abbrev pub symbols_if : List ℕ → Option Section → List Symbol
symbols_if file (Some table) = symbols_in file table
symbols_if file None = []

-- the symbols of a file's table, in its order
abbrev pub elf_symbols : List ℕ → List Symbol
elf_symbols file = symbols_if file (symbol_table file)
