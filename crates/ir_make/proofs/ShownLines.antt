-- A line of a text, as it is shown.
use Rattle.std.proofs.Common.{◌≡◌, ◌-◌, ℕ, zero, suc, min, Bool, true, false, List, [], ◌∷◌, ◌++◌, length, map, take, get_or, Option, Some, None, refl, ap, ◌∙◌, codes, arith}
use Rattle.std.proofs.lemmas.Bool.{eqb-true, ne_eqb}
use Rattle.std.proofs.lemmas.List.{take_min, nil_from_length}
use Rattle.std.specs.Prelude.{◌==◌, if◌then◌else◌, slice_get, unwrap_or, option_map}
use Rattle.std.specs.Str.Lines.{lines, lines_of_parts, strip_carriage_return}
use Rattle.ir_asm.specs.Text.{split}
use Rattle.ir_asm.specs.Source.{source_lines, line_without_return, without_returns}
use Rattle.ir_make.specs.Assembling.{source_line_at, shown_fault, after_cause}

-- ---- std's lines, and the assembler's

-- a list, or what comes before its element n where that is a carriage return
abbrev without_return_at : List ℕ → ℕ → List ℕ
without_return_at l n = if get_or l n 0 == 13 then take n l else l

without_return_at_cons : (x : ℕ) (l : List ℕ) (n : ℕ) → without_return_at (x ∷ l) (suc n) ≡ x ∷ without_return_at l n
without_return_at_cons x l n = by_test (get_or l n 0 == 13)
  where
    by_test : (t : Bool) → (if t then x ∷ take n l else x ∷ l) ≡ x ∷ (if t then take n l else l)
    by_test true = refl
    by_test false = refl

-- both drop one carriage return at the end
strip_is_without_return : (l : List ℕ) → strip_carriage_return l ≡ line_without_return l
strip_is_without_return [] = refl
strip_is_without_return (x ∷ []) = refl
strip_is_without_return (x ∷ y ∷ l) =
    let n : length (x ∷ y ∷ l) - 1 ≡ suc (length (y ∷ l) - 1) = omega arith in
    ap (without_return_at (x ∷ y ∷ l)) n ∙ without_return_at_cons x (y ∷ l) (length (y ∷ l) - 1) ∙ ap (λ (r : List ℕ). x ∷ r) (strip_is_without_return (y ∷ l))

-- an empty last part is no line of std's
get_or-lines_of_parts : (parts : List (List ℕ)) (n : ℕ) → get_or (lines_of_parts parts) n [] ≡ get_or (without_returns parts) n []
get_or-lines_of_parts [] n = refl
get_or-lines_of_parts ([] ∷ []) zero = refl
get_or-lines_of_parts ([] ∷ []) (suc n) = refl
get_or-lines_of_parts ((b ∷ line) ∷ []) n =
    ap (λ (t : Bool). get_or (if t then [] else (b ∷ line) ∷ []) n []) (ne_eqb (length (b ∷ line)) 0 (λ e. omega (arith, e)))
get_or-lines_of_parts (x ∷ y ∷ parts) zero = strip_is_without_return x
get_or-lines_of_parts (x ∷ y ∷ parts) (suc n) = get_or-lines_of_parts (y ∷ parts) n

unwrapped_get_is_get_or : (xs : List (List ℕ)) (n : ℕ) → unwrap_or (slice_get xs n) [] ≡ get_or xs n []
unwrapped_get_is_get_or [] n = refl
unwrapped_get_is_get_or (x ∷ xs) zero = refl
unwrapped_get_is_get_or (x ∷ xs) (suc n) = unwrapped_get_is_get_or xs n

read_of_unwrap_or : {A : Type 0} (read : A → List ℕ) (found : Option A) (other : A) → read other ≡ [] → read (unwrap_or found other) ≡ unwrap_or (option_map read found) []
read_of_unwrap_or read None other none = none
read_of_unwrap_or read (Some x) other none = refl

-- the line that was found, or an empty one
pub found_line_is_line_at : {A : Type 0} (read : A → List ℕ) (text : List ℕ) (number n : ℕ) (found : Option A) (other line : A)
    → option_map read found ≡ slice_get (lines text) n → n ≡ number - 1 → line ≡ unwrap_or found other → read other ≡ []
    → read line ≡ source_line_at text number
found_line_is_line_at read text number n found other line is at taken none =
    ap read taken ∙ read_of_unwrap_or read found other none ∙ ap (λ (o : Option (List ℕ)). unwrap_or o []) is ∙ unwrapped_get_is_get_or (lines text) n
    ∙ get_or-lines_of_parts (split 10 text) n ∙ ap (λ (k : ℕ). get_or (source_lines text) k []) at

-- ---- what is shown

-- so much of a line, or all of a shorter one
pub take_min_length : (n : ℕ) (line : List ℕ) → take (min n (length line)) line ≡ take n line
take_min_length n line = take_min n line

pub after_cause_of_empty : (part : List ℕ) → (length part == 0) ≡ true → after_cause (map shown_fault part) ≡ []
after_cause_of_empty part empty = ap (λ (l : List ℕ). after_cause (map shown_fault l)) (nil_from_length part (eqb-true (length part) 0 empty))

pub after_cause_of_part : (part : List ℕ) → (length part == 0) ≡ false → after_cause (map shown_fault part) ≡ codes ": " ++ map shown_fault part
after_cause_of_part [] some = absurd (cc some)
after_cause_of_part (b ∷ part) some = refl
