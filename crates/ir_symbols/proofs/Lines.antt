-- Lines that are read one after the other.
use Rattle.std.proofs.Common.{◌≡◌, ◌+◌, ◌-◌, ◌<◌, ◌≤◌, ℕ, suc, Bool, true, false, cond, ltb, ltb-true, ltb-false, List, [], ◌∷◌, ◌++◌, length, take, drop, refl, sym, ap, ◌∙◌, arith, append_assoc, Bor}
use Rattle.std.specs.Prelude.{Option, Some, None, Result, Ok, Err, map, position, ◌==◌, IfSome, MatchOption}
use Rattle.std.specs.List.{slice_split, position_or_len}
use Rattle.std.specs.Str.Lines.{strip_carriage_return}
use Rattle.std.proofs.lemmas.List.{take_rest}
use Rattle.std.proofs.lemmas.List.Splits.{slice_split_none, slice_split_first}
use Rattle.std.proofs.lemmas.List.Sums.{fails_before_first}
use Rattle.ir_symbols.specs.Symbols.{Symbol}
use Rattle.ir_symbols.specs.Maps.{map_lines, map_entry, symbols_from, with_first, with_entry}
use Rattle.ir_symbols.specs.declared.entry.Entry.{Entry}
use Rattle.ir_symbols.specs.declared.entry.Entry.TheVariants.{Nothing, Names, Faulty}

-- ---- cutting

-- a line feed
abbrev is_line_feed : ℕ → Bool
is_line_feed b = b == 10

conditional_some_parts : (b : Bool) (m n : ℕ) → cond b (Some m) None ≡ Some n → (b ≡ true) × (m ≡ n)
conditional_some_parts true m n e = (refl, cc e)
conditional_some_parts false m n e = cc e

conditional_none_test : (b : Bool) (m : ℕ) → cond b (Some m) None ≡ None → b ≡ false
conditional_none_test true m e = cc e
conditional_none_test false m e = refl

split_at_line_feed : (text : List ℕ) (n : ℕ) → position is_line_feed text ≡ Some n
    → slice_split is_line_feed text ≡ take n text ∷ slice_split is_line_feed (drop (n + 1) text)
split_at_line_feed text n e =
    let p = conditional_some_parts (ltb (position_or_len is_line_feed text) (length text)) (position_or_len is_line_feed text) n e in
    slice_split_first is_line_feed text 0 (ltb-true _ _ p.0)
    ∙ ap (λ (k : ℕ). take k text ∷ slice_split is_line_feed (drop (k + 1) text)) p.1

split_without_line_feed : (text : List ℕ) → position is_line_feed text ≡ None → slice_split is_line_feed text ≡ text ∷ []
split_without_line_feed text e =
    let past : length text ≤ position_or_len is_line_feed text =
    ltb-false _ _ (conditional_none_test (ltb (position_or_len is_line_feed text) (length text)) (position_or_len is_line_feed text) e) in
    slice_split_none is_line_feed text (λ k d l. fails_before_first is_line_feed text k d (omega (arith, past, l)))

-- the first line, where a line feed ends it
pub map_lines_first : (text line : List ℕ) (n : ℕ) → position is_line_feed text ≡ Some n → line ≡ strip_carriage_return (take n text)
    → map_lines text ≡ line ∷ map_lines (take (length text - (n + 1)) (drop (n + 1) text))
map_lines_first text line n e f =
    ap (λ (parts : List (List ℕ)). map strip_carriage_return parts) (split_at_line_feed text n e)
    ∙ ap (λ (first : List ℕ). first ∷ map_lines (drop (n + 1) text)) (sym f)
    ∙ ap (λ (rest : List ℕ). line ∷ map_lines rest) (sym (take_rest text (n + 1)))

-- the last line
pub map_lines_single : (text line : List ℕ) → position is_line_feed text ≡ None → line ≡ strip_carriage_return text → map_lines text ≡ line ∷ []
map_lines_single text line e f =
    ap (λ (parts : List (List ℕ)). map strip_carriage_return parts) (split_without_line_feed text e) ∙ ap (λ (first : List ℕ). first ∷ []) (sym f)

-- ---- reading

-- the lines that are left of a map
abbrev pub lines_left : Option (Bor (List ℕ)) → List (List ℕ)
lines_left None = []
lines_left (Some text) = map_lines text.now

-- more than the bytes that are left
abbrev pub size_left : Option (Bor (List ℕ)) → ℕ
size_left None = 0
size_left (Some text) = suc (length text.now)

-- symbols before those that are read
abbrev pub with_all : List Symbol → Result (List Symbol) ℕ → Result (List Symbol) ℕ
with_all first (Ok symbols) = Ok (first ++ symbols)
with_all first (Err number) = Err number

with_first_pushes : (first : List Symbol) (s : Symbol) (read : Result (List Symbol) ℕ)
    → with_all first (with_first s read) ≡ with_all (first ++ s ∷ []) read
with_first_pushes first s (Ok symbols) = ap (λ (l : List Symbol). Ok l) (sym (append_assoc first (s ∷ []) symbols))
with_first_pushes first s (Err number) = refl

-- the next of the lines that are left
lines_left_by_next_line : (left after : Option (Bor (List ℕ))) (text : Bor (List ℕ)) (line : List ℕ) → left ≡ Some text
    → MatchOption after (map_lines text.now ≡ line ∷ []) (λ rest. map_lines text.now ≡ line ∷ map_lines rest.now)
    → lines_left left ≡ line ∷ lines_left after
lines_left_by_next_line left None text line e h = ap lines_left e ∙ h
lines_left_by_next_line left (Some rest) text line e h = ap lines_left e ∙ h

-- what it says, and the others
symbols_next_line : (number : ℕ) (left after : Option (Bor (List ℕ))) (text : Bor (List ℕ)) (line : List ℕ) (entry : Entry) → left ≡ Some text
    → MatchOption after (map_lines text.now ≡ line ∷ []) (λ rest. map_lines text.now ≡ line ∷ map_lines rest.now)
    → entry ≡ map_entry line
    → symbols_from (number + 1) (lines_left left) ≡ with_entry (number + 1) entry (symbols_from (number + 1 + 1) (lines_left after))
unfolding symbols_from
symbols_next_line number left after text line entry e h f =
    ap (symbols_from (number + 1)) (lines_left_by_next_line left after text line e h)
    ∙ ap (λ (said : Entry). with_entry (number + 1) said (symbols_from (number + 1 + 1) (lines_left after))) (sym f)

-- of an empty rest
pub symbols_no_lines : (number : ℕ) (left : Option (Bor (List ℕ))) → ((text : Bor (List ℕ)) → left ≡ Some text → ⊥)
    → symbols_from number (lines_left left) ≡ Ok []
unfolding symbols_from
symbols_no_lines number None h = refl
symbols_no_lines number (Some text) h = absurd (h text refl)

-- a line that says nothing, one of a symbol, and a faulty one
pub symbols_silent_line : (whole : Result (List Symbol) ℕ) (first : List Symbol) (number : ℕ) (left after : Option (Bor (List ℕ))) (text : Bor (List ℕ))
    (line : List ℕ) → left ≡ Some text
    → MatchOption after (map_lines text.now ≡ line ∷ []) (λ rest. map_lines text.now ≡ line ∷ map_lines rest.now) → Nothing ≡ map_entry line
    → with_all first (symbols_from (number + 1) (lines_left left)) ≡ whole
    → with_all first (symbols_from (number + 1 + 1) (lines_left after)) ≡ whole
symbols_silent_line whole first number left after text line e h f done =
    sym (ap (with_all first) (symbols_next_line number left after text line Nothing e h f)) ∙ done

pub symbols_symbol_line : (whole : Result (List Symbol) ℕ) (first : List Symbol) (number : ℕ) (left after : Option (Bor (List ℕ))) (text : Bor (List ℕ))
    (line : List ℕ) (s : Symbol) → left ≡ Some text
    → MatchOption after (map_lines text.now ≡ line ∷ []) (λ rest. map_lines text.now ≡ line ∷ map_lines rest.now) → Names s ≡ map_entry line
    → with_all first (symbols_from (number + 1) (lines_left left)) ≡ whole
    → with_all (first ++ s ∷ []) (symbols_from (number + 1 + 1) (lines_left after)) ≡ whole
symbols_symbol_line whole first number left after text line s e h f done =
    sym (ap (with_all first) (symbols_next_line number left after text line (Names s) e h f)
    ∙ with_first_pushes first s (symbols_from (number + 1 + 1) (lines_left after))) ∙ done

pub symbols_faulty_line : (whole : Result (List Symbol) ℕ) (first : List Symbol) (number : ℕ) (left after : Option (Bor (List ℕ))) (text : Bor (List ℕ))
    (line : List ℕ) → left ≡ Some text
    → MatchOption after (map_lines text.now ≡ line ∷ []) (λ rest. map_lines text.now ≡ line ∷ map_lines rest.now) → Faulty ≡ map_entry line
    → with_all first (symbols_from (number + 1) (lines_left left)) ≡ whole → whole ≡ Err (number + 1)
symbols_faulty_line whole first number left after text line e h f done =
    sym done ∙ ap (with_all first) (symbols_next_line number left after text line Faulty e h f)

-- there are fewer bytes left
pub size_left_falls : (left after : Option (Bor (List ℕ))) (text : Bor (List ℕ)) → left ≡ Some text
    → IfSome after (λ rest. length rest.now < length text.now) → size_left after < size_left left
size_left_falls left None text e h = let size : size_left left ≡ suc (length text.now) = ap size_left e in omega (arith, size)
size_left_falls left (Some rest) text e h = let size : size_left left ≡ suc (length text.now) = ap size_left e in omega (arith, size, h)
