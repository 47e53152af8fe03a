-- The code of a guest as text.
use Rattle.std.specs.Prelude.{ℕ, ◌+◌, ◌*◌, ◌%◌, ◌^◌, List, [], ◌∷◌, ◌++◌, codes, decimal, flat_map, Option, Some, None, option_map, option_and_then, unwrap_or, ℤ}
use Rattle.ir_isa.specs.declared.inst.Inst.{Inst}
use Rattle.ir_isa.specs.declared.inst.Inst.TheVariants.{Jal, Branch}
use Rattle.ir_isa.specs.Decoded.{instruction_of}
use Rattle.ir_isa.specs.Fields.{low_bits}
use Rattle.ir_image.specs.Guest.{Guest, code_start}
use Rattle.ir_disasm.specs.Printed.{text_of}
use Rattle.ir_symbols.specs.Symbols.{Symbol}
use Rattle.ir_symbols.specs.Tables.{symbols_within}
use Rattle.ir_symbols.specs.Names.{name_text}
use Rattle.ir_symbols.specs.Maps.{map_word}

-- the name of an address: ` <NAME>`, ` <NAME+N>` or nothing
abbrev pub address_name : List Symbol → ℕ → List ℕ
address_name symbols address = unwrap_or (name_text symbols address) []

-- ---- threads

-- the line of a thread: its number and its entry
abbrev pub entry_thread_line : List Symbol → ℕ → ℕ → List ℕ
entry_thread_line symbols number entry =
    codes "thread " ++ (decimal number ++ (codes " entry " ++ (map_word entry ++ (address_name symbols entry ++ 10 ∷ []))))

-- ---- words

-- how far an instruction goes, if it is a JAL or a branch
abbrev pub distance_of : Inst → Option ℤ
distance_of (Jal rd offset) = Some offset.value
distance_of (Branch op rs1 rs2 offset) = Some offset.value
distance_of other = None

-- the address so far from another
abbrev pub address_after : ℕ → ℤ → ℕ
address_after address distance = (address + low_bits 32 distance) % 2 ^ 32

-- where the word at an address goes, if it is a JAL or a branch
abbrev pub target_of : ℕ → ℕ → Option ℕ
target_of address word = option_map (address_after address) (option_and_then distance_of (instruction_of word))

-- the name of a target, if there is one
abbrev pub target_name : List Symbol → Option ℕ → List ℕ
target_name symbols (Some target) = address_name symbols target
target_name symbols None = []

-- the line of the word at an address: both, the text of the word, and the name of its target
abbrev pub word_line : List Symbol → ℕ → ℕ → List ℕ
word_line symbols address word =
    map_word address ++ 32 ∷ (map_word word ++ 32 ∷ (text_of address word ++ (target_name symbols (target_of address word) ++ 10 ∷ [])))

-- the line of a symbol
abbrev pub symbol_line : Symbol → List ℕ
symbol_line s = map_word s.address ++ (codes " <" ++ (s.name ++ codes ">:\n"))

-- the lines of the word at an address: those of the symbols that are in it, in their order, and its own
abbrev pub word_lines : List Symbol → ℕ → ℕ → List ℕ
word_lines symbols address word = flat_map symbol_line (symbols_within address (address + 4) symbols) ++ word_line symbols address word

-- ---- the guest

-- the lines of each element in turn, of which the first has this number
unfoldable pub lines_from : (ℕ → ℕ → List ℕ) → ℕ → List ℕ → List ℕ
lines_from lines number [] = []
lines_from lines number (x ∷ xs) = lines number x ++ lines_from lines (number + 1) xs

-- the lines of the threads, by their numbers and entries
abbrev pub entry_threads_text : List Symbol → List ℕ → List ℕ
entry_threads_text symbols entries = lines_from (entry_thread_line symbols) 0 entries

-- the lines of the words of the code
abbrev pub code_lines_text : List Symbol → List ℕ → List ℕ
code_lines_text symbols code = lines_from (λ number word. word_lines symbols (code_start + 4 * number) word) 0 code

-- the listing of a guest: its threads and its code, with symbols
abbrev pub listing_text : Guest → List Symbol → List ℕ
listing_text guest symbols = entry_threads_text symbols guest.entries ++ code_lines_text symbols guest.code
