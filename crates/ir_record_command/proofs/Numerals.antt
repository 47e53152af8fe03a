-- Numbers that are read.
use Rattle.std.proofs.Common.{◌≡◌, ◌<◌, ◌≤◌, ◌^◌, ℕ, Bool, true, false, List, length, get_or, refl, sym, ap, ◌∙◌, arith, inl, inr}
use Rattle.std.specs.Prelude.{◌&&◌, nat_le, Option, Some, None, if◌then◌else◌, Result, Ok, Err, ◌≢◌}
use Rattle.std.specs.Bool.{Decides}
use Rattle.std.specs.Result.{OkIff}
use Rattle.std.specs.Str.{all_ascii_digits}
use Rattle.std.specs.Str.Parse.{digits_value, ParsesUnsigned}
use Rattle.std.proofs.lemmas.Str.Parse.{IsNumeralModel, numerals_by_value, tells_all_ascii_digits, parse_plain}
use Rattle.std.proofs.lemmas.Bool.{false≢true, le-leb, leb-true, lt-leb, cases_lt}
use Rattle.ir_record_command.specs.Numerals.{number_within}

pub digits_numeral_model : IsNumeralModel (λ ds. all_ascii_digits ds ≡ true) (digits_value 10)
digits_numeral_model = numerals_by_value (λ ds. all_ascii_digits ds ≡ true) tells_all_ascii_digits

-- a text without a plus in prefix that parses
pub parsed_plain_is_number : {E : Type 0} (bs : List ℕ) (r : Result ℕ E) → ParsesUnsigned 64 10 bs r → get_or bs 0 0 ≢ 43
    → OkIff r ((all_ascii_digits bs ≡ true) × (0 < length bs) × (digits_value 10 bs < 2 ^ 64)) (digits_value 10 bs)
parsed_plain_is_number bs r h plain = parse_plain digits_numeral_model 64 bs r h plain

none_unless_tests : (a d l h : Bool) (v : ℕ) → (a ≡ true → d ≡ true → h ≡ false)
    → ◌≡◌ {A = Option ℕ} None (if (a && d) && (l && h) then Some v else None)
none_unless_tests false d l h v fails = refl
none_unless_tests true false l h v fails = refl
none_unless_tests true true false h v fails = refl
none_unless_tests true true true h v fails = rw (fails refl refl) refl

some_if_tests : (a d l h : Bool) (v : ℕ) → a ≡ true → d ≡ true → l ≡ true → h ≡ true
    → ◌≡◌ {A = Option ℕ} (Some v) (if (a && d) && (l && h) then Some v else None)
some_if_tests a d l h v p q r s = rw (p, q, r, s) refl

pub number_within_of_digits : (low high n : ℕ) (bs : List ℕ) → all_ascii_digits bs ≡ true → 0 < length bs → n ≡ digits_value 10 bs → low ≤ n → n ≤ high
    → Some n ≡ number_within low high bs
number_within_of_digits low high n bs all some is l h =
    ap (λ (m : ℕ). Some m) is ∙ some_if_tests (nat_le 1 (length bs)) (all_ascii_digits bs) (nat_le low (digits_value 10 bs))
    (nat_le (digits_value 10 bs) high) (digits_value 10 bs)
    (le-leb 1 (length bs) (omega arith)) all (le-leb low (digits_value 10 bs) (omega arith))
    (le-leb (digits_value 10 bs) high (omega arith))

pub no_numeral_no_number : (low high : ℕ) (bs : List ℕ) → high < 2 ^ 64
    → ¬ ((all_ascii_digits bs ≡ true) × (0 < length bs) × (digits_value 10 bs < 2 ^ 64)) → None ≡ number_within low high bs
no_numeral_no_number low high bs fits not =
    none_unless_tests (nat_le 1 (length bs)) (all_ascii_digits bs) (nat_le low (digits_value 10 bs)) (nat_le (digits_value 10 bs) high)
    (digits_value 10 bs)
    (λ some all. lt-leb (digits_value 10 bs) high (elim (cases_lt (digits_value 10 bs) (2 ^ 64)) [
      | inl small ↦ absurd (not (all, leb-true 1 (length bs) some, small))
      | inr large ↦ omega (arith, fits, large)
    ]))

-- a number that parses
pub number_within_of_parsed : (low high n : ℕ) (bs : List ℕ) → ParsesUnsigned {E = Unit {0}} 64 10 bs (Ok n) → get_or bs 0 0 ≢ 43 → low ≤ n → n ≤ high
    → Some n ≡ number_within low high bs
number_within_of_parsed low high n bs h plain l m = let p = parsed_plain_is_number {E = Unit {0}} bs (Ok n) h plain in number_within_of_digits low high n bs p.0.0 p.0.1 p.1 l m

-- a text that doesn't
pub unparsed_no_number : {E : Type 0} (low high : ℕ) (e : E) (bs : List ℕ) → ParsesUnsigned 64 10 bs (Err e) → get_or bs 0 0 ≢ 43 → high < 2 ^ 64
    → None ≡ number_within low high bs
unparsed_no_number low high e bs h plain fits = no_numeral_no_number low high bs fits (parsed_plain_is_number bs (Err e) h plain)

-- a text that doesn't begin with the character
pub first_byte_is_no_plus : (bs : List ℕ) (r : Bool) → r ≡ false → Decides r (get_or bs 0 0 ≡ 43) → get_or bs 0 0 ≢ 43
first_byte_is_no_plus bs r fails d e = let yes : r ≡ true = d.1 e in cc

-- what isn't all digits
pub no_digits_no_number : (low high : ℕ) (bs : List ℕ) → all_ascii_digits bs ≡ false → number_within low high bs ≡ None
no_digits_no_number low high bs other = sym (none_unless_tests (nat_le 1 (length bs)) (all_ascii_digits bs) (nat_le low (digits_value 10 bs))
    (nat_le (digits_value 10 bs) high) (digits_value 10 bs) (λ some all. absurd (false≢true (sym other ∙ all))))
