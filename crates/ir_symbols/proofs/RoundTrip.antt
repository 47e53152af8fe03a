-- Maps that were written are read again.
use Rattle.std.proofs.Common.{◌≡◌, ◌+◌, ◌-◌, ◌^◌, ◌<◌, ℕ, zero, suc, Bool, true, false, cond, List, [], ◌∷◌, ◌++◌, length, take, drop}
use Rattle.std.proofs.Common.{get_or, refl, sym, ap, subst, ◌∙◌, arith, append_assoc, length-append}
use Rattle.std.specs.Prelude.{Some, None, option_and_then, Ok, map, ◌==◌, ◌&&◌}
use Rattle.std.specs.Int.{w32, to_be_bytes}
use Rattle.std.specs.List.Sorted.{IsNonDecreasingBy}
use Rattle.std.specs.List.{All, AllPass, list_all}
use Rattle.std.specs.Str.Lines.{strip_carriage_return}
use Rattle.std.proofs.lemmas.Bool.{and_parts}
use Rattle.std.proofs.lemmas.Bool.Decides.{nat_tests}
use Rattle.std.proofs.lemmas.Nat.{from_be_bytes-to_be_bytes_4}
use Rattle.std.proofs.lemmas.List.{take_at, drop_at, get_or-append_right}
use Rattle.std.proofs.lemmas.List.Elements.{All-nil, All-cons, All-head, All-tail, All-append, All-weaker}
use Rattle.std.proofs.lemmas.List.Splits.{slice_split_at}
use Rattle.hex.specs.Hex.{IsBytes, decode_sized, is_hex_digit}
use Rattle.hex.proofs.HexLemmas.{length-encode_with, decode_of-encode_lower, decode_of-ok, decode_sized-twice}
use Rattle.ir_symbols.specs.Symbols.{Symbol, IsSymbol, symbol_address, is_kind, is_mark, is_printable, is_name}
use Rattle.ir_symbols.specs.Maps.{map_word, map_line, map_text, address_in, symbol_by, symbol_in, leading_blanks, is_undefined}
use Rattle.ir_symbols.specs.Maps.{is_passed_over, map_entry, map_lines, symbols_from, symbols_at, with_first, with_entry, IsTableOf}
use Rattle.ir_symbols.specs.Tables.{IsSortOf}
use Rattle.ir_symbols.proofs.OneSort.{sorts_of_symbols_equal, sorted_is_own_sort}
use Rattle.ir_symbols.specs.declared.entry.Entry.{Entry}
use Rattle.ir_symbols.specs.declared.entry.Entry.TheVariants.{Names}

-- ---- the digits of an address

address_bytes_are_bytes : (n : ℕ) → IsBytes (to_be_bytes w32 n)
address_bytes_are_bytes n zero = omega arith
address_bytes_are_bytes n (suc zero) = omega arith
address_bytes_are_bytes n (suc (suc zero)) = omega arith
address_bytes_are_bytes n (suc (suc (suc zero))) = omega arith
address_bytes_are_bytes n (suc (suc (suc (suc i)))) = omega arith

length_of_hex_word : (n : ℕ) → length (map_word n) ≡ 8
length_of_hex_word n = length-encode_with _ (to_be_bytes w32 n)

hex_word_is_hex_digits : (n : ℕ) → AllPass is_hex_digit (map_word n)
hex_word_is_hex_digits n = (decode_of-ok (map_word n) (to_be_bytes w32 n) (decode_of-encode_lower (to_be_bytes w32 n) (address_bytes_are_bytes n))).1

address_in_hex_word : (n : ℕ) → n < 2 ^ 32 → address_in (map_word n) ≡ Some n
address_in_hex_word n h =
    let decoded : decode_sized (map_word n) 4 ≡ Ok (to_be_bytes w32 n) =
    decode_sized-twice (map_word n) 4 (length_of_hex_word n) ∙ decode_of-encode_lower (to_be_bytes w32 n) (address_bytes_are_bytes n) in
    rw decoded (ap (λ (m : ℕ). Some m) (from_be_bytes-to_be_bytes_4 n h))

-- ---- a line

-- a line without its line feed
abbrev line_without_feed : Symbol → List ℕ
line_without_feed s = map_word s.address ++ 32 ∷ s.kind ∷ 32 ∷ s.name

line_of_ends_in_feed : (s : Symbol) (rest : List ℕ) → map_line s ++ rest ≡ line_without_feed s ++ 10 ∷ rest
line_of_ends_in_feed s rest =
    append_assoc (map_word s.address) (32 ∷ s.kind ∷ 32 ∷ (s.name ++ 10 ∷ [])) rest
    ∙ ap (λ (l : List ℕ). map_word s.address ++ 32 ∷ s.kind ∷ 32 ∷ l) (append_assoc s.name (10 ∷ []) rest)
    ∙ sym (append_assoc (map_word s.address) (32 ∷ s.kind ∷ 32 ∷ s.name) (10 ∷ rest))

-- a byte that is no line feed
abbrev IsNoLineFeed : ℕ → Type 0
IsNoLineFeed b = b == 10 ≡ false

hex_digit_no_line_feed : (b : ℕ) → is_hex_digit b ≡ true → IsNoLineFeed b
hex_digit_no_line_feed b h = grind (arith, nat_tests)

kind_is_no_line_feed : (b : ℕ) → is_kind b ≡ true → IsNoLineFeed b
kind_is_no_line_feed b h = grind (arith, nat_tests)

name_has_no_line_feed : (name : List ℕ) → list_all is_printable name ≡ true → All IsNoLineFeed name
name_has_no_line_feed [] h = All-nil IsNoLineFeed
name_has_no_line_feed (b ∷ name) h =
    let p = and_parts (is_printable b) (list_all is_printable name) h in
    let first : IsNoLineFeed b = let q = p.0 in grind (arith, nat_tests) in
    All-cons IsNoLineFeed b name first (name_has_no_line_feed name p.1)

line_has_no_feed : (s : Symbol) → IsSymbol s → All IsNoLineFeed (line_without_feed s)
line_has_no_feed s h =
    let digits : All IsNoLineFeed (map_word s.address) =
    All-weaker (λ b. is_hex_digit b ≡ true) IsNoLineFeed hex_digit_no_line_feed (map_word s.address) (hex_word_is_hex_digits s.address) in
    let name : All IsNoLineFeed s.name = name_has_no_line_feed s.name (and_parts (list_all is_printable s.name) _ h.name_is).0 in
    All-append IsNoLineFeed (map_word s.address) (32 ∷ s.kind ∷ 32 ∷ s.name) digits
    (All-cons IsNoLineFeed 32 (s.kind ∷ 32 ∷ s.name) refl (All-cons IsNoLineFeed s.kind (32 ∷ s.name) (kind_is_no_line_feed s.kind h.kind_is)
    (All-cons IsNoLineFeed 32 s.name refl name)))

-- a name has a first byte and ends with a mark
name_ends_in_mark : (name : List ℕ) → is_name name ≡ true → (0 < length name) × (is_mark (get_or name (length name - 1) 0) ≡ true)
name_ends_in_mark name h =
    let ends = and_parts (is_mark (get_or name 0 0)) (is_mark (get_or name (length name - 1) 0))
    (and_parts (list_all is_printable name) _ h).1 in
    (some name ends.0, ends.1)
  where
    some : (l : List ℕ) → is_mark (get_or l 0 0) ≡ true → 0 < length l
    some [] e = cc e
    some (b ∷ l) e = omega arith

length-line_without_feed : (s : Symbol) → length (line_without_feed s) ≡ 11 + length s.name
length-line_without_feed s =
    length-append (map_word s.address) (32 ∷ s.kind ∷ 32 ∷ s.name)
    ∙ (let size = length_of_hex_word s.address in omega (arith, size))

last_byte_is_of_name : (s : Symbol) → 0 < length s.name → get_or (line_without_feed s) (length (line_without_feed s) - 1) 0 ≡ get_or s.name (length s.name - 1) 0
last_byte_is_of_name s some =
    let size = length-line_without_feed s in
    let place : length (line_without_feed s) - 1 - 8 ≡ suc (suc (suc (length s.name - 1))) = omega (arith, size, some) in
    get_or-append_right (map_word s.address) (32 ∷ s.kind ∷ 32 ∷ s.name) 8 (length (line_without_feed s) - 1) 0 (length_of_hex_word s.address) (omega (arith, size))
    ∙ ap (λ (k : ℕ). get_or (32 ∷ s.kind ∷ 32 ∷ s.name) k 0) place

mark_is_no_return : (b : ℕ) → is_mark b ≡ true → b == 13 ≡ false
mark_is_no_return b h = grind (arith, nat_tests)

strip_leaves_line : (s : Symbol) → IsSymbol s → strip_carriage_return (line_without_feed s) ≡ line_without_feed s
strip_leaves_line s h =
    let ends = name_ends_in_mark s.name h.name_is in
    let last : get_or (line_without_feed s) (length (line_without_feed s) - 1) 0 == 13 ≡ false =
    ap (λ (b : ℕ). b == 13) (last_byte_is_of_name s ends.0) ∙ mark_is_no_return (get_or s.name (length s.name - 1) 0) ends.1 in
    rw last refl

-- what the line says
symbol_in-own_line : (s : Symbol) → IsSymbol s → symbol_in (line_without_feed s) ≡ Some s
symbol_in-own_line s h =
    let size = length_of_hex_word s.address in
    let first : take 8 (line_without_feed s) ≡ map_word s.address = take_at (map_word s.address) (32 ∷ s.kind ∷ 32 ∷ s.name) 8 size in
    let rest : drop 8 (line_without_feed s) ≡ 32 ∷ s.kind ∷ 32 ∷ s.name = drop_at (map_word s.address) (32 ∷ s.kind ∷ 32 ∷ s.name) 8 size in
    let read : address_in (take 8 (line_without_feed s)) ≡ Some s.address = ap address_in first ∙ address_in_hex_word s.address h.address_fits in
    let kind : is_kind s.kind ≡ true = h.kind_is in
    let name : is_name s.name ≡ true = h.name_is in
    let label : symbol_by s.address (drop 8 (line_without_feed s)) ≡ Some s = ap (symbol_by s.address) rest ∙ by_tests (is_kind s.kind) (is_name s.name) kind name in
    ap (option_and_then (λ address. symbol_by address (drop 8 (line_without_feed s)))) read ∙ label
  where
    by_tests : (a b : Bool) → a ≡ true → b ≡ true → cond (a && b) (Some s) None ≡ Some s
    by_tests true true e f = refl
    by_tests true false e f = cc f
    by_tests false b e f = cc e

-- it begins without a blank
hex_digit_is_no_blank : (b : ℕ) → is_hex_digit b ≡ true → b == 32 ≡ false
hex_digit_is_no_blank b h = grind (arith, nat_tests)

digits_no_blanks : (digits rest : List ℕ) → 0 < length digits → AllPass is_hex_digit digits → leading_blanks (digits ++ rest) ≡ 0
digits_no_blanks [] rest some h = absurd (omega arith)
digits_no_blanks (b ∷ digits) rest some h = let e = hex_digit_is_no_blank b (All-head (λ c. is_hex_digit c ≡ true) b digits h) in rw e refl

line_is_not_undefined : (s : Symbol) → is_undefined (line_without_feed s) ≡ false
line_is_not_undefined s =
    let size = length_of_hex_word s.address in
    let none : leading_blanks (line_without_feed s) ≡ 0 = digits_no_blanks (map_word s.address) (32 ∷ s.kind ∷ 32 ∷ s.name) (omega (arith, size)) (hex_word_is_hex_digits s.address) in
    rw none refl

entry_of_symbol_line : (s : Symbol) → IsSymbol s → is_passed_over s.kind ≡ false → map_entry (line_without_feed s) ≡ Names s
unfolding map_entry
entry_of_symbol_line s h placed =
    let size = length-line_without_feed s in
    let some : length (line_without_feed s) == 0 ≡ false = grind (arith, nat_tests) in
    let other = line_is_not_undefined s in
    let read = symbol_in-own_line s h in
    rw (some, other, read, placed) refl

-- ---- all lines

lines_of_symbol_line : (s : Symbol) (rest : List ℕ) → IsSymbol s → map_lines (map_line s ++ rest) ≡ line_without_feed s ∷ map_lines rest
lines_of_symbol_line s rest h =
    ap map_lines (line_of_ends_in_feed s rest)
    ∙ ap (λ (parts : List (List ℕ)). map strip_carriage_return parts)
    (slice_split_at (λ b. b == 10) (line_without_feed s) 10 rest (line_has_no_feed s h) refl)
    ∙ ap (λ (line : List ℕ). line ∷ map_lines rest) (strip_leaves_line s h)

-- a symbol that names a place
abbrev pub NamesPlace : Symbol → Type 0
NamesPlace s = is_passed_over s.kind ≡ false

pub symbols_from_map_text : (number : ℕ) (symbols : List Symbol) → All IsSymbol symbols → All NamesPlace symbols
    → symbols_from number (map_lines (map_text symbols)) ≡ Ok symbols
unfolding symbols_from map_entry
symbols_from_map_text number [] h placed = refl
symbols_from_map_text number (s ∷ symbols) h placed =
    let here : IsSymbol s = All-head IsSymbol s symbols h in
    let says : map_entry (line_without_feed s) ≡ Names s = entry_of_symbol_line s here (All-head NamesPlace s symbols placed) in
    ap (symbols_from number) (lines_of_symbol_line s (map_text symbols) here)
    ∙ ap (λ (e : Entry). with_entry number e (symbols_from (number + 1) (map_lines (map_text symbols)))) says
    ∙ ap (with_first s) (symbols_from_map_text (number + 1) symbols (All-tail IsSymbol s symbols h) (All-tail NamesPlace s symbols placed))

-- a table of what was written is the table
pub table_of_map_text : (symbols table : List Symbol) → IsNonDecreasingBy symbol_address symbols → All IsSymbol symbols → All NamesPlace symbols
    → IsTableOf (symbols_at (map_text symbols)) table → table ≡ symbols
table_of_map_text symbols table rising h placed t =
    let same : t.symbols ≡ symbols = let e = sym t.all_read ∙ symbols_from_map_text 1 symbols h placed in cc in
    sorts_of_symbols_equal symbols table symbols (subst (λ (l : List Symbol). IsSortOf l table) same t.sorted) (sorted_is_own_sort symbols rising)
