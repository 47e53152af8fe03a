-- Numbers and registers are read as they are printed.
use Rattle.std.proofs.Common.{◌≡◌, ◌+◌, ◌*◌, ◌/◌, ◌%◌, ◌<◌, ◌≤◌, ◌^◌, ℕ, zero, suc, Bool, true, false, List, [], ◌∷◌, ◌++◌, length, Option, Some, None, refl, sym, subst, ap, ◌∙◌, arith}
use Rattle.std.specs.Prelude.{◌&&◌, not, nat_lt, ◌==◌, decimal, codes, ℤ, pos, negsuc, nat_abs, option_map}
use Rattle.std.specs.List.{list_all, range_with_len}
use Rattle.std.specs.Char.{digit_value, digit_char}
use Rattle.std.specs.Fmt.{signed_decimal}
use Rattle.std.specs.Str.Parse.{IsNumeral, AllDigits, digits_value}
use Rattle.std.proofs.lemmas.Fmt.{decimal_is_IsNumeral, length-decimal-le}
use Rattle.std.proofs.lemmas.Bool.{and_parts, lt-ltb, le-leb, eqb-true, eqb-false}
use Rattle.std.proofs.lemmas.Grind.{common_steps}
use Rattle.ir_lemmas.proofs.CallerLemmas.{false_if_not_is_true}
use Rattle.ir_numerals.specs.Numerals.{numeral, starts_hexadecimal}
use Rattle.ir_asm.specs.Text.{is_nil, natural, source_number, first_byte}
use Rattle.ir_isa.specs.Fields.{register_name}
use Rattle.ir_isa.specs.declared.inst.Register.{Register}
use Rattle.ir_asm.specs.Fields.{register_of}
use Rattle.ir_asm.specs.Names.{named, register_rows, register_named}
use Rattle.ir_disasm.specs.Printed.{hex}
use Rattle.ir_asm.proofs.Pieces.{clean, IsPiece}
use Rattle.ir_asm.proofs.FieldLaws.{register_of_own_number}

-- a test that each number of a list passes, which counts on from a number
in_range_passes : (p : ℕ → Bool) (low count : ℕ) → list_all p (range_with_len low count) ≡ true → (n : ℕ) → low ≤ n → n < low + count → p n ≡ true
in_range_passes p low zero h n l k = absurd (omega (arith, l, k))
in_range_passes p low (suc count) h n l k =
    let both = and_parts (p low) (list_all p (range_with_len (low + 1) count)) h in
    by_test (n == low) refl both.0 (λ m. in_range_passes p (low + 1) count both.1 n m (omega (arith, k)))
  where
    by_test : (b : Bool) → (n == low) ≡ b → p low ≡ true → (low + 1 ≤ n → p n ≡ true) → p n ≡ true
    by_test true e first rest = subst (λ m. p m ≡ true) (sym (eqb-true n low e)) first
    by_test false e first rest = let other = eqb-false n low e in rest (omega (arith, l, other))

-- a test that each number of a register passes
register_number_passes : (p : ℕ → Bool) → list_all p (range_with_len 0 32) ≡ true → (r : Register) → p r.number ≡ true
register_number_passes p h r = in_range_passes p 0 32 h r.number (omega arith) (omega (arith, r.in_range))

-- this very number is there
abbrev holds_number : ℕ → Option ℕ → Bool
holds_number n (Some m) = m == n
holds_number n None = false

some_if_holds_number : (n : ℕ) (o : Option ℕ) → holds_number n o ≡ true → o ≡ Some n
some_if_holds_number n (Some m) e = ap (λ (k : ℕ). Some k) (eqb-true m n e)
some_if_holds_number n None e = absurd (cc e)

pub register-register_name : (r : Register) → register_named (register_name r.number) ≡ Some r
register-register_name r =
    let found = some_if_holds_number r.number (named register_rows (register_name r.number))
    (register_number_passes (λ n. holds_number n (named register_rows (register_name n))) refl r) in
    ap (option_map register_of) found ∙ ap (λ (x : Register). Some x) (register_of_own_number r)

pub register_name_is_piece : (r : Register) → IsPiece (register_name r.number)
register_name_is_piece r = record {
  some = false_if_not_is_true (is_nil (register_name r.number)) (register_number_passes (λ n. not (is_nil (register_name n))) refl r);
  all = register_number_passes (λ n. list_all clean (register_name n)) refl r;
}

digit_is_not_x : (b : ℕ) → digit_value b < 10 → (b == 120) ≡ false
digit_is_not_x b h = grind (arith, common_steps)

digit_is_not_minus : (b : ℕ) → digit_value b < 10 → (b == 45) ≡ false
digit_is_not_minus b h = grind (arith, common_steps)

digit_is_clean : (b : ℕ) → digit_value b < 10 → clean b ≡ true
digit_is_clean b h = grind (arith, common_steps)

all_digits_below_radix : (radix : ℕ) (ds : List ℕ) → AllDigits radix ds → list_all (λ c. nat_lt (digit_value c) radix) ds ≡ true
all_digits_below_radix radix [] h = refl
all_digits_below_radix radix (d ∷ ds) h = rw (lt-ltb (digit_value d) radix h.0) (all_digits_below_radix radix ds h.1)

pub digits_are_clean : (ds : List ℕ) → AllDigits 10 ds → list_all clean ds ≡ true
digits_are_clean [] h = refl
digits_are_clean (d ∷ ds) h = rw (digit_is_clean d h.0) (digits_are_clean ds h.1)

digits_start_no_hex : (ds : List ℕ) → AllDigits 10 ds → starts_hexadecimal ds ≡ false
digits_start_no_hex [] h = refl
digits_start_no_hex (a ∷ []) h = refl
digits_start_no_hex (a ∷ b ∷ ds) h = rw (digit_is_not_x b h.1.0) (grind (arith, common_steps))

numeral_is_digits_value : (radix most : ℕ) (ds : List ℕ) → IsNumeral radix ds → length ds ≤ most → numeral radix most ds ≡ Some (digits_value radix ds)
numeral_is_digits_value radix most ds h k = rw (le-leb 1 (length ds) h.0, le-leb (length ds) most k, all_digits_below_radix radix ds h.1) refl

pub natural_of_decimal : (n : ℕ) → n < 10 ^ 10 → natural (decimal n) ≡ Some n
natural_of_decimal n h =
    let p = decimal_is_IsNumeral n (omega arith) in
    rw (digits_start_no_hex (decimal n) p.0.1) (numeral_is_digits_value 10 10 (decimal n) p.0 (length-decimal-le 10 n (omega arith) h (omega arith))
    ∙ ap (λ (m : ℕ). Some m) p.1)

nonempty_is_not_nil : (ds : List ℕ) → 0 < length ds → is_nil ds ≡ false
nonempty_is_not_nil [] h = absurd (omega (arith, h))
nonempty_is_not_nil (d ∷ ds) h = refl

pub decimal_is_piece : (n : ℕ) → n < 2 ^ 64 → IsPiece (decimal n)
decimal_is_piece n h =
    let p = decimal_is_IsNumeral n h in
    record { some = nonempty_is_not_nil (decimal n) p.0.0; all = digits_are_clean (decimal n) p.0.1 }

first_digit_not_minus : (ds : List ℕ) → AllDigits 10 ds → (first_byte ds == 45) ≡ false
first_digit_not_minus [] h = refl
first_digit_not_minus (d ∷ ds) h = digit_is_not_minus d h.0

pub number-signed_decimal : (z : ℤ) → nat_abs z < 10 ^ 10 → source_number (signed_decimal z) ≡ Some z
number-signed_decimal (pos n) h = rw (first_digit_not_minus (decimal n) (decimal_is_IsNumeral n (omega (arith, h))).0.1, natural_of_decimal n h) refl
number-signed_decimal (negsuc n) h = rw (natural_of_decimal (suc n) h) refl

pub number_of_decimal : (n : ℕ) → n < 10 ^ 10 → source_number (decimal n) ≡ Some (pos n)
number_of_decimal n h = number-signed_decimal (pos n) h

pub signed_decimal_is_piece : (z : ℤ) → nat_abs z < 2 ^ 64 → IsPiece (signed_decimal z)
signed_decimal_is_piece (pos n) h = decimal_is_piece n h
signed_decimal_is_piece (negsuc n) h = record { some = refl; all = (decimal_is_piece (suc n) h).all }

-- ---- hexadecimal

digit_value-digit_char : (d : ℕ) → d < 16 → digit_value (digit_char d) ≡ d
digit_value-digit_char d h = grind (arith, common_steps)

digit_char_is_clean : (d : ℕ) → d < 16 → clean (digit_char d) ≡ true
digit_char_is_clean d h = grind (arith, common_steps)

mod_16_below_16 : (n : ℕ) → n % 16 < 16
mod_16_below_16 n = omega arith

numeral_eight_digits : (a b c d e f g h : ℕ) → a < 16 → b < 16 → c < 16 → d < 16 → e < 16 → f < 16 → g < 16 → h < 16 →
    numeral 16 8 (digit_char a ∷ digit_char b ∷ digit_char c ∷ digit_char d ∷ digit_char e ∷ digit_char f ∷ digit_char g ∷ digit_char h
    ∷ [])
    ≡ Some ((((((((0 * 16 + a) * 16 + b) * 16 + c) * 16 + d) * 16 + e) * 16 + f) * 16 + g) * 16 + h)
numeral_eight_digits a b c d e f g h k0 k1 k2 k3 k4 k5 k6 k7 =
    rw (
      digit_value-digit_char a k0,
      digit_value-digit_char b k1,
      digit_value-digit_char c k2,
      digit_value-digit_char d k3,
      digit_value-digit_char e k4,
      digit_value-digit_char f k5,
      digit_value-digit_char g k6,
      digit_value-digit_char h k7,
    )
    (rw (lt-ltb a 16 k0, lt-ltb b 16 k1, lt-ltb c 16 k2, lt-ltb d 16 k3, lt-ltb e 16 k4, lt-ltb f 16 k5, lt-ltb g 16 k6, lt-ltb h 16 k7)
    refl)

pub natural_of_hex_word : (n : ℕ) → n < 2 ^ 32 → natural (codes "0x" ++ hex 8 n) ≡ Some n
natural_of_hex_word n h =
    let e : ((((((((0 * 16 + n / 16 ^ 7 % 16) * 16 + n / 16 ^ 6 % 16) * 16 + n / 16 ^ 5 % 16) * 16 + n / 16 ^ 4 % 16) * 16 + n / 16 ^ 3 %
    16) * 16 + n / 16 ^ 2 % 16) * 16 + n / 16 ^ 1 % 16) * 16 + n / 16 ^ 0 % 16) ≡ n = omega arith in
    numeral_eight_digits (n / 16 ^ 7 % 16) (n / 16 ^ 6 % 16) (n / 16 ^ 5 % 16) (n / 16 ^ 4 % 16) (n / 16 ^ 3 % 16) (n / 16 ^ 2 % 16) (n / 16 ^ 1 % 16)
    (n / 16 ^ 0 % 16)
    (mod_16_below_16 _) (mod_16_below_16 _) (mod_16_below_16 _) (mod_16_below_16 _) (mod_16_below_16 _) (mod_16_below_16 _) (mod_16_below_16 _) (mod_16_below_16 _)
    ∙ ap (λ (m : ℕ). Some m) e

pub hex_is_clean : (k n : ℕ) → list_all clean (hex k n) ≡ true
hex_is_clean zero n = refl
hex_is_clean (suc k) n = rw (digit_char_is_clean (n / 16 ^ k % 16) (mod_16_below_16 (n / 16 ^ k))) (hex_is_clean k n)

numeral_five_digits : (a b c d e : ℕ) → a < 16 → b < 16 → c < 16 → d < 16 → e < 16 →
    numeral 16 8 (digit_char a ∷ digit_char b ∷ digit_char c ∷ digit_char d ∷ digit_char e ∷ [])
    ≡ Some (((((0 * 16 + a) * 16 + b) * 16 + c) * 16 + d) * 16 + e)
numeral_five_digits a b c d e k0 k1 k2 k3 k4 =
    rw (digit_value-digit_char a k0, digit_value-digit_char b k1, digit_value-digit_char c k2, digit_value-digit_char d k3, digit_value-digit_char e k4)
    (rw (lt-ltb a 16 k0, lt-ltb b 16 k1, lt-ltb c 16 k2, lt-ltb d 16 k3, lt-ltb e 16 k4) refl)

pub natural-five_hex : (n : ℕ) → n < 2 ^ 20 → natural (codes "0x" ++ hex 5 n) ≡ Some n
natural-five_hex n h =
    let e : (((((0 * 16 + n / 16 ^ 4 % 16) * 16 + n / 16 ^ 3 % 16) * 16 + n / 16 ^ 2 % 16) * 16 + n / 16 ^ 1 % 16) * 16 + n / 16 ^ 0 %
    16) ≡ n = omega arith in
    numeral_five_digits (n / 16 ^ 4 % 16) (n / 16 ^ 3 % 16) (n / 16 ^ 2 % 16) (n / 16 ^ 1 % 16) (n / 16 ^ 0 % 16)
    (mod_16_below_16 _) (mod_16_below_16 _) (mod_16_below_16 _) (mod_16_below_16 _) (mod_16_below_16 _)
    ∙ ap (λ (m : ℕ). Some m) e

-- ---- parentheses

-- a byte that is no parenthesis
abbrev pub is_not_parenthesis : ℕ → Bool
is_not_parenthesis b = not (b == 40) && not (b == 41)

digit_no_parenthesis : (b : ℕ) → digit_value b < 10 → is_not_parenthesis b ≡ true
digit_no_parenthesis b h = grind (arith, common_steps)

digits_no_parenthesis : (ds : List ℕ) → AllDigits 10 ds → list_all is_not_parenthesis ds ≡ true
digits_no_parenthesis [] h = refl
digits_no_parenthesis (d ∷ ds) h = rw (digit_no_parenthesis d h.0) (digits_no_parenthesis ds h.1)

pub decimal_no_parenthesis : (z : ℤ) → nat_abs z < 2 ^ 64 → list_all is_not_parenthesis (signed_decimal z) ≡ true
decimal_no_parenthesis (pos n) h = digits_no_parenthesis (decimal n) (decimal_is_IsNumeral n h).0.1
decimal_no_parenthesis (negsuc n) h = digits_no_parenthesis (decimal (suc n)) (decimal_is_IsNumeral (suc n) h).0.1

pub name_no_parenthesis : (r : Register) → list_all is_not_parenthesis (register_name r.number) ≡ true
name_no_parenthesis r = register_number_passes (λ n. list_all is_not_parenthesis (register_name n)) refl r

pub no_opening_byte : (a : List ℕ) → list_all is_not_parenthesis a ≡ true → list_all (λ b. not (b == 40)) a ≡ true
no_opening_byte [] h = refl
no_opening_byte (x ∷ a) h =
    let p = and_parts (is_not_parenthesis x) (list_all is_not_parenthesis a) h in
    rw (and_parts (not (x == 40)) (not (x == 41)) p.0).0 (no_opening_byte a p.1)

pub no_closing_byte : (a : List ℕ) → list_all is_not_parenthesis a ≡ true → list_all (λ b. not (b == 41)) a ≡ true
no_closing_byte [] h = refl
no_closing_byte (x ∷ a) h =
    let p = and_parts (is_not_parenthesis x) (list_all is_not_parenthesis a) h in
    rw (and_parts (not (x == 40)) (not (x == 41)) p.0).1 (no_closing_byte a p.1)
