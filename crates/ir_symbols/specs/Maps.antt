-- Maps: symbols in lines, as `nm -n` prints them.
use Rattle.std.specs.Prelude.{◌≡◌, ℕ, ◌+◌, ◌==◌, ◌||◌, ◌&&◌, nat_le, Bool, false, List, [], ◌∷◌, ◌++◌, length, take, drop, map, flat_map}
use Rattle.std.specs.Prelude.{Option, Some, None, option_map, option_and_then, Result, Ok, Err, if◌then◌else◌}
use Rattle.std.specs.Result.{result_ok}
use Rattle.std.specs.Int.{w32, to_be_bytes, from_be_bytes}
use Rattle.std.specs.List.{slice_split, prefix_len}
use Rattle.std.specs.Str.Lines.{strip_carriage_return}
use Rattle.hex.specs.Hex.{encode_lower, decode_sized}
use Rattle.ir_symbols.specs.Symbols.{Symbol, is_kind, is_name, symbol_of}
use Rattle.ir_symbols.specs.Tables.{IsSortOf}
use Rattle.ir_symbols.specs.declared.entry.Entry.{Entry}
use Rattle.ir_symbols.specs.declared.entry.Entry.TheVariants.{Nothing, Names, Faulty}
use Rattle.ir_symbols.specs.declared.map_err.MapErr.{MapErr}
use Rattle.ir_symbols.specs.declared.map_err.MapErr.TheVariants.{Line, NoMem}

-- ---- writing

-- a word in eight lower-case hexadecimal digits
abbrev pub map_word : ℕ → List ℕ
map_word word = encode_lower (to_be_bytes w32 word)

-- the line of a symbol: its address, its kind and its name
abbrev pub map_line : Symbol → List ℕ
map_line s = map_word s.address ++ 32 ∷ s.kind ∷ 32 ∷ (s.name ++ 10 ∷ [])

-- the lines of all symbols
abbrev pub map_text : List Symbol → List ℕ
map_text symbols = flat_map map_line symbols

-- ---- a line

-- the address that eight hexadecimal digits of either case write
abbrev pub address_in : List ℕ → Option ℕ
address_in digits = option_map (from_be_bytes w32) (result_ok (decode_sized digits 4))

-- the symbol at an address whose kind and name are these, each after a blank
abbrev pub symbol_by : ℕ → List ℕ → Option Symbol
symbol_by address (a ∷ kind ∷ b ∷ name) = if a == 32 && b == 32 then symbol_of address kind name else None
symbol_by address text = None

-- the symbol of a line of eight digits, a kind and a name, if the line is one
abbrev pub symbol_in : List ℕ → Option Symbol
symbol_in line = option_and_then (λ address. symbol_by address (drop 8 line)) (address_in (take 8 line))

-- how many blanks a line begins with
abbrev pub leading_blanks : List ℕ → ℕ
leading_blanks line = prefix_len (λ b. b == 32) line

-- a kind, a blank and a name
abbrev pub is_label : List ℕ → Bool
is_label (kind ∷ b ∷ name) = b == 32 && (is_kind kind && is_name name)
is_label text = false

-- the line of an undefined symbol, which has no address: eight blanks or more, a kind, a blank and a name
abbrev pub is_undefined : List ℕ → Bool
is_undefined line = nat_le 8 (leading_blanks line) && is_label (drop (leading_blanks line) line)

-- the kinds of symbols that are passed over: absolute, `A` and `a`, and debugging, `N` and `n`
abbrev pub is_passed_over : ℕ → Bool
is_passed_over kind = (kind == 65 || kind == 97) || (kind == 78 || kind == 110)

-- what the line of a symbol says, if it is one
abbrev pub entry_by : Option Symbol → Entry
entry_by (Some s) = if is_passed_over s.kind then Nothing else Names s
entry_by None = Faulty

-- what a line says
unfoldable pub map_entry : List ℕ → Entry
map_entry line = if length line == 0 || is_undefined line then Nothing else entry_by (symbol_in line)

-- ---- all lines

-- the lines between line feeds, without carriage returns at their ends
abbrev pub map_lines : List ℕ → List (List ℕ)
map_lines bytes = map strip_carriage_return (slice_split (λ b. b == 10) bytes)

-- one more symbol before others
abbrev pub with_first : Symbol → Result (List Symbol) ℕ → Result (List Symbol) ℕ
with_first s (Ok symbols) = Ok (s ∷ symbols)
with_first s (Err number) = Err number

-- what a line and the lines after it say
abbrev pub with_entry : ℕ → Entry → Result (List Symbol) ℕ → Result (List Symbol) ℕ
with_entry number Nothing others = others
with_entry number (Names s) others = with_first s others
with_entry number Faulty others = Err number

-- the symbols of lines, or the number of the first faulty one, where the first line has this number
unfoldable pub symbols_from : ℕ → List (List ℕ) → Result (List Symbol) ℕ
symbols_from number [] = Ok []
symbols_from number (line ∷ lines) = with_entry number (map_entry line) (symbols_from (number + 1) lines)

-- the symbols of a map in the order of its lines, or the number of the first faulty line, counted from 1
abbrev pub symbols_at : List ℕ → Result (List Symbol) ℕ
symbols_at bytes = symbols_from 1 (map_lines bytes)

-- ---- what the reader answers

-- the table has the symbols that were read
pub record IsTableOf (read : Result (List Symbol) ℕ) (table : List Symbol) : Type 0 where
  pub symbols : List Symbol
  pub all_read : read ≡ Ok symbols
  pub sorted : IsSortOf symbols table

-- reading met this fault, or memory ran out
abbrev pub IsMapFault : {Y : Type 0} → MapErr → Result Y ℕ → Type 0
IsMapFault (Line number) read = read ≡ Err number
IsMapFault NoMem read = Unit {0}

-- an answer, seen by a view, is what reading gives, unless memory ran out
abbrev pub GivesSymbols : {X Y : Type 0} → (X → Y) → Result X MapErr → Result Y ℕ → Type 0
GivesSymbols view (Ok x) read = read ≡ Ok (view x)
GivesSymbols view (Err e) read = IsMapFault e read
