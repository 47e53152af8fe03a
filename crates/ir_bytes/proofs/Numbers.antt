-- The bytes of a number, and the number of bytes.
use Rattle.std.proofs.Common.{◌≡◌, ℕ, zero, suc, ◌+◌, ◌*◌, ◌/◌, ◌%◌, ◌^◌, ◌<◌, ◌≤◌, List, [], ◌∷◌, ◌++◌, length, slice_index, take, drop, sym, ap, ◌∙◌, arith, length-take-le}
use Rattle.std.specs.Int.{byte_at, bytes_low_first}
use Rattle.std.specs.List.{AllByRecursion}
use Rattle.std.proofs.lemmas.List.{take-append-drop, append-nil, nil_from_length}
use Rattle.std.proofs.Math.Nat.{mod-lt}
use Rattle.std.proofs.Math.Seq.{take-length}
use Rattle.byteorder.specs.Endian.{little_bytes, little_number, little_from}
use Rattle.byteorder.specs.Numbers.{little_from-cons, little_from-take, little_from-lt, little_number-reads_back, length-bytes_low_first}
use Rattle.ir_bytes.specs.Numbers.{IsByte}

abbrev pub IsBytes : List ℕ → Type 0
IsBytes bytes = AllByRecursion IsByte bytes

pub is_bytes_by_elements : (bytes : List ℕ) → ((i : ℕ) → slice_index bytes i < 256) → IsBytes bytes
is_bytes_by_elements [] h = tt
is_bytes_by_elements (b ∷ rest) h = (h 0, is_bytes_by_elements rest (λ i. h (suc i)))

element_is_byte : (bytes : List ℕ) → IsBytes bytes → (i : ℕ) → slice_index bytes i < 256
element_is_byte [] h i = omega arith
element_is_byte (b ∷ rest) h zero = h.0
element_is_byte (b ∷ rest) h (suc i) = element_is_byte rest h.1 i

pub drop_of_bytes_is_bytes : (n : ℕ) (bytes : List ℕ) → IsBytes bytes → IsBytes (drop n bytes)
drop_of_bytes_is_bytes zero bytes h = h
drop_of_bytes_is_bytes (suc n) [] h = tt
drop_of_bytes_is_bytes (suc n) (b ∷ rest) h = drop_of_bytes_is_bytes n rest h.1

pub take_of_bytes_is_bytes : (n : ℕ) (bytes : List ℕ) → IsBytes bytes → IsBytes (take n bytes)
take_of_bytes_is_bytes zero bytes h = tt
take_of_bytes_is_bytes (suc n) [] h = tt
take_of_bytes_is_bytes (suc n) (b ∷ rest) h = (h.0, take_of_bytes_is_bytes n rest h.1)

sum_parts_equal : (x y a b : ℕ) → x < 256 → y < 256 → x + 256 * a ≡ y + 256 * b → (x ≡ y) × (a ≡ b)
sum_parts_equal x y a b p q e = (omega arith, omega arith)

-- different bytes of one width are different numbers
little_number_injective : (n : ℕ) (xs ys : List ℕ) → IsBytes xs → IsBytes ys → length xs ≡ n → length ys ≡ n → little_number n xs ≡ little_number n ys
    → xs ≡ ys
little_number_injective zero xs ys p q l m e = nil_from_length xs l ∙ sym (nil_from_length ys m)
little_number_injective (suc n) [] ys p q l m e = absurd (omega (arith, l))
little_number_injective (suc n) (x ∷ xs) [] p q l m e = absurd (omega (arith, m))
little_number_injective (suc n) (x ∷ xs) (y ∷ ys) p q l m e =
    let moved : x + 256 * little_from 0 n xs ≡ y + 256 * little_from 0 n ys =
    ap (λ (k : ℕ). x + 256 * k) (sym (little_from-cons 0 n x xs)) ∙ e ∙ ap (λ (k : ℕ). y + 256 * k) (little_from-cons 0 n y ys) in
    let both = sum_parts_equal x y (little_from 0 n xs) (little_from 0 n ys) p.0 q.0 moved in
    let tails = little_number_injective n xs ys p.1 q.1 (omega (arith, l)) (omega (arith, m)) both.1 in
    ap (λ (k : ℕ). k ∷ xs) both.0 ∙ ap (λ (k : List ℕ). y ∷ k) tails

byte_at_is_byte : (i x : ℕ) → byte_at i x < 256
byte_at_is_byte zero x = mod-lt x (omega arith)
byte_at_is_byte (suc i) x = mod-lt (x / 256 ^ suc i) (omega arith)

bytes_low_first_are_bytes : (i n x : ℕ) → IsBytes (bytes_low_first i n x)
bytes_low_first_are_bytes i zero x = tt
bytes_low_first_are_bytes i (suc n) x = (byte_at_is_byte i x, bytes_low_first_are_bytes (suc i) n x)

prefix_is_little_bytes : (n : ℕ) (xs : List ℕ) → IsBytes xs → n ≤ length xs → take n xs ≡ little_bytes n (little_number n xs)
prefix_is_little_bytes n xs h long =
    let v = little_number n xs in
    let fits : v < 256 ^ n = little_from-lt 0 n xs (element_is_byte xs h) in
    let own : little_number n (take n xs) ≡ v = little_from-take 0 n n xs (omega arith) in
    let back : little_number n (little_bytes n v) ≡ v = ap (λ (l : List ℕ). little_from 0 n l) (sym (append-nil (little_bytes n v))) ∙
    little_number-reads_back n v [] fits in
    little_number_injective n (take n xs) (little_bytes n v) (take_of_bytes_is_bytes n xs h) (bytes_low_first_are_bytes 0 n v) (length-take-le n xs long)
    (length-bytes_low_first 0 n v) (own ∙ sym back)

-- bytes whose prefix encodes a number
pub record IsEncoded (n : ℕ) (xs : List ℕ) : Type 0 where
  pub parts : xs ≡ little_bytes n (little_number n xs) ++ drop n xs
  pub fits : little_number n xs < 256 ^ n

pub prefix_encodes_number : (n : ℕ) (xs : List ℕ) → IsBytes xs → n ≤ length xs → IsEncoded n xs
prefix_encodes_number n xs h long = record {
  parts = sym (take-append-drop n xs) ∙ ap (λ (t : List ℕ). t ++ drop n xs) (prefix_is_little_bytes n xs h long);
  fits = little_from-lt 0 n xs (element_is_byte xs h);
}

pub bytes_are_little_bytes : (xs : List ℕ) → IsBytes xs → xs ≡ little_bytes (length xs) (little_number (length xs) xs)
bytes_are_little_bytes xs h = sym (take-length xs) ∙ prefix_is_little_bytes (length xs) xs h (omega arith)

-- a number below 256 is its one byte
pub little_bytes_1 : (n : ℕ) → n < 256 → little_bytes 1 n ≡ n ∷ []
little_bytes_1 n fits =
    let same : n % 256 ≡ n = omega arith in
    ap (λ (k : ℕ). k ∷ []) same
