-- The value of digits so far.
use Rattle.std.proofs.Common.{◌≡◌, ◌+◌, ◌*◌, ◌^◌, ◌<◌, ◌≤◌, ℕ, Bool, true, List, length, get_or, take, add-one, arith, refl, sym, ap, ◌∙◌}
use Rattle.std.specs.Prelude.{◌&&◌, Option, Some, None, IfSome}
use Rattle.std.specs.List.{list_all}
use Rattle.std.specs.Char.{digit_value}
use Rattle.std.specs.Str.Parse.{digits_value}
use Rattle.std.proofs.Math.Nat.{pow-le-pow_right, pow-suc, mul-le-mul_left}
use Rattle.std.proofs.lemmas.Bool.{lt-ltb}
use Rattle.std.proofs.lemmas.Int.Digits.{digits_value_more}
use Rattle.std.proofs.lemmas.List.Folds.{list_all_more}
use Rattle.ir_lemmas.proofs.CallerLemmas.{and_true_from_both}
use Rattle.ir_numerals.specs.Digits.{is_digit}

pub digit_below_radix : (digit value radix : ℕ) → (value < radix) × (digit ≡ value) → digit < radix
digit_below_radix digit value radix h = omega arith

-- one digit more
pub value_digit_below_power : (v r d i : ℕ) → v < 16 ^ i → r ≤ 16 → d < r → v * r + d < 16 ^ (i + 1)
value_digit_below_power v r d i small radix digit =
    let more : 16 ^ (i + 1) ≡ 16 ^ i * 16 = rw add-one (pow-suc 16 i) in
    let most : v * r ≤ v * 16 = mul-le-mul_left v radix in
    rw more (omega arith)

pub value_digit_below_128_bits : (v r d i : ℕ) → v < 16 ^ i → r ≤ 16 → d < r → i < 20 → v * r + d < 2 ^ 128
value_digit_below_128_bits v r d i small radix digit short =
    let next = value_digit_below_power v r d i small radix digit in
    let most : 16 ^ (i + 1) ≤ 16 ^ 20 = pow-le-pow_right {n = 16} (omega arith) {i = i + 1} {j = 20} (omega arith) in
    omega arith

all_digits_step : (r i byte : ℕ) (ds : List ℕ) → i < length ds → byte ≡ get_or ds i 0 → digit_value byte < r
    → list_all (is_digit r) (take i ds) ≡ true → list_all (is_digit r) (take (i + 1) ds) ≡ true
all_digits_step r i byte ds lt is digit_below_radix all =
    let here : is_digit r (get_or ds i 0) ≡ true = ap (is_digit r) (sym is) ∙ lt-ltb (digit_value byte) r digit_below_radix in
    list_all_more (is_digit r) ds i 0 lt ∙ and_true_from_both (list_all (is_digit r) (take i ds)) (is_digit r (get_or ds i 0)) all here

-- what the digits so far write, with one more
digits_value_step : (r i v d byte : ℕ) (ds : List ℕ) → i < length ds → byte ≡ get_or ds i 0 → d ≡ digit_value byte → v ≡ digits_value r (take i ds)
    → v * r + d ≡ digits_value r (take (i + 1) ds)
digits_value_step r i v d byte ds lt is digit so_far =
    let more = digits_value_more r ds i lt in
    let here : d ≡ digit_value (get_or ds i 0) = digit ∙ ap digit_value is in
    ap (λ (n : ℕ). v * r + n) here ∙ ap (λ (n : ℕ). n * r + digit_value (get_or ds i 0)) so_far ∙ sym more

pub record IsValueOfPrefix (r i v : ℕ) (ds : List ℕ) : Type 0 where
  pub all : list_all (is_digit r) (take i ds) ≡ true
  pub value : v ≡ digits_value r (take i ds)
  pub small : v < 16 ^ i

pub value_of_prefix_step : (r i v d byte : ℕ) (ds : List ℕ) → i < length ds → byte ≡ get_or ds i 0 → (digit_value byte < r) × (d ≡ digit_value byte)
    → r ≤ 16 → IsValueOfPrefix r i v ds → IsValueOfPrefix r (i + 1) (v * r + d) ds
value_of_prefix_step r i v d byte ds lt is digit radix so_far = record {
  all = all_digits_step r i byte ds lt is digit.0 so_far.all;
  value = digits_value_step r i v d byte ds lt is digit.1 so_far.value;
  small = value_digit_below_power v r d i so_far.small radix (digit_below_radix d (digit_value byte) r digit);
}

-- more digits write no less at most
below_greater_power : (v i j : ℕ) → v < 16 ^ i → i ≤ j → v < 16 ^ j
below_greater_power v i j small more =
    let most : 16 ^ i ≤ 16 ^ j = pow-le-pow_right {n = 16} (omega arith) {i = i} {j = j} more in
    omega (arith, small, most)

pub found_value_bound : (found : Option ℕ) (i j : ℕ) → i ≤ j → IfSome found (λ v. v < 16 ^ i) → IfSome found (λ v. v < 16 ^ j)
found_value_bound None i j more small = small
found_value_bound (Some v) i j more small = below_greater_power v i j small more

pub ten_digits_value_bound : (found : Option ℕ) (i : ℕ) → i ≤ 10 → IfSome found (λ v. v < 16 ^ i) → IfSome found (λ v. v < 2 ^ 40)
ten_digits_value_bound found i few small = found_value_bound found i 10 few small
