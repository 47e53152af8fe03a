-- The pieces of a line, and numbers.
use Rattle.std.specs.Prelude.{◌==◌, ◌&&◌, ◌||◌, ℕ, nat_le, Bool, true, false, List, [], ◌∷◌, length, drop, Option, if◌then◌else◌, ℤ, pos, neg_ℤ, option_map}
use Rattle.std.specs.List.{slice_split, list_all}
use Rattle.ir_numerals.specs.Numerals.{number_in}

-- a space or a tab
abbrev pub is_source_blank : ℕ → Bool
is_source_blank b = (b == 32) || (b == 9)

-- the bytes from the first that is no blank
abbrev pub skip_source_blanks : List ℕ → List ℕ
skip_source_blanks [] = []
skip_source_blanks (b ∷ bs) = if is_source_blank b then skip_source_blanks bs else b ∷ bs

-- the list is empty
abbrev pub is_nil : List ℕ → Bool
is_nil [] = true
is_nil (b ∷ bs) = false

-- the bytes up to the last that is no blank
abbrev pub trim_end : List ℕ → List ℕ
trim_end [] = []
trim_end (b ∷ bs) = if is_source_blank b && is_nil (trim_end bs) then [] else b ∷ trim_end bs

-- the bytes without the blanks round them
abbrev pub trim : List ℕ → List ℕ
trim bs = trim_end (skip_source_blanks bs)

-- the parts between the bytes c
abbrev pub split : ℕ → List ℕ → List (List ℕ)
split c bs = slice_split (λ b. b == c) bs

-- the bytes up to the first that passes
abbrev pub until : (ℕ → Bool) → List ℕ → List ℕ
until p [] = []
until p (b ∷ bs) = if p b then [] else b ∷ until p bs

-- the bytes from the first that passes on
abbrev pub from : (ℕ → Bool) → List ℕ → List ℕ
from p [] = []
from p (b ∷ bs) = if p b then b ∷ bs else from p bs

-- what comes before the first byte c
abbrev pub text_before : ℕ → List ℕ → List ℕ
text_before c bs = until (λ b. b == c) bs

-- ---- names

-- a decimal digit
abbrev pub is_source_digit : ℕ → Bool
is_source_digit b = nat_le 48 b && nat_le b 57

-- a letter of either case
abbrev pub is_letter : ℕ → Bool
is_letter b = (nat_le 65 b && nat_le b 90) || (nat_le 97 b && nat_le b 122)

-- a byte that a name may begin with
abbrev pub begins_name : ℕ → Bool
begins_name b = is_letter b || (b == 95)

-- a byte that a name may go on with
abbrev pub goes_on_name : ℕ → Bool
goes_on_name b = begins_name b || is_source_digit b

-- a name of at most 64 bytes
abbrev pub is_source_name : List ℕ → Bool
is_source_name [] = false
is_source_name (b ∷ bs) = begins_name b && (list_all goes_on_name bs && nat_le (length bs) 63)

-- ---- numbers

-- a number without sign: 1 to 10 decimal digits, or `0x` and 1 to 8 hexadecimal digits
abbrev pub natural : List ℕ → Option ℕ
natural ds = number_in 10 8 ds

-- the first byte, or 0
abbrev pub first_byte : List ℕ → ℕ
first_byte [] = 0
first_byte (b ∷ bs) = b

-- a number with or without a minus sign
abbrev pub source_number : List ℕ → Option ℤ
source_number ds = if first_byte ds == 45 then option_map (λ n. neg_ℤ (pos n)) (natural (drop 1 ds)) else option_map pos (natural ds)
