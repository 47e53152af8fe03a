-- Program headers are read if all are there.
use Rattle.std.proofs.Common.{◌≡◌, ℕ, zero, suc, ◌+◌, ◌*◌, ◌≤◌, ◌<◌, ltb, false, refl, inl, inr, List, [], length, take, drop, Result, Ok, Err, ap, sym, ◌∙◌, arith}
use Rattle.std.proofs.lemmas.Bool.{cases_lt, le-leb, lt-leb, lt-ltb, le-ltb}
use Rattle.std.proofs.lemmas.List.{length-drop, drop-drop}
use Rattle.byteorder.specs.Endian.{little_number}
use Rattle.ir_bytes.specs.Reading.{◌>>=◌, number_at, bytes_at, fields_at}
use Rattle.ir_elf.specs.declared.refusal.Refusal.{Refusal}
use Rattle.ir_elf.specs.declared.refusal.Refusal.TheVariants as refusal
use Rattle.ir_elf.specs.declared.header.Header.{Header}
use Rattle.ir_elf.specs.Header.{elf_header_at}
use Rattle.ir_elf.specs.Tests.{Test, test, is_whole, field_number, header_in, headers_in}
use Rattle.ir_elf.proofs.Refused.{Agrees}

-- ---- what is there

number_at_is_number_in : (file : List ℕ) (p size q : ℕ) → q ≡ p + size → q ≤ length file
    → number_at refusal.Short size (drop p file) ≡ Ok (field_number file p size, drop q file)
unfolding number_at
number_at_is_number_in file p size q e there =
    let left = length-drop p file in
    let long : ltb (length (drop p file)) size ≡ false = le-ltb _ _ (omega (arith, left, e, there)) in
    let back : drop size (drop p file) ≡ drop q file = drop-drop size p file ∙ ap (λ (k : ℕ). drop k file) (sym e) in
    rw (long, back) refl

bytes_at_is_take : (file : List ℕ) (p size q : ℕ) → q ≡ p + size → q ≤ length file
    → bytes_at refusal.Short size (drop p file) ≡ Ok (take size (drop p file), drop q file)
unfolding bytes_at
bytes_at_is_take file p size q e there =
    let left = length-drop p file in
    let long : ltb (length (drop p file)) size ≡ false = le-ltb _ _ (omega (arith, left, e, there)) in
    let back : drop size (drop p file) ≡ drop q file = drop-drop size p file ∙ ap (λ (k : ℕ). drop k file) (sym e) in
    rw (long, back) refl

header_at_is_header_in : (file : List ℕ) (p : ℕ) → p + 32 ≤ length file → elf_header_at (drop p file) ≡ Ok (header_in file p, drop (p + 32) file)
unfolding elf_header_at
header_at_is_header_in file p there =
    let kind = number_at_is_number_in file p 4 (p + 4) (omega arith) (omega (arith, there)) in
    let place = number_at_is_number_in file (p + 4) 4 (p + 8) (omega arith) (omega (arith, there)) in
    let address = number_at_is_number_in file (p + 8) 4 (p + 12) (omega arith) (omega (arith, there)) in
    let physical = bytes_at_is_take file (p + 12) 4 (p + 16) (omega arith) (omega (arith, there)) in
    let count = number_at_is_number_in file (p + 16) 4 (p + 20) (omega arith) (omega (arith, there)) in
    let size = number_at_is_number_in file (p + 20) 4 (p + 24) (omega arith) (omega (arith, there)) in
    let flags = number_at_is_number_in file (p + 24) 4 (p + 28) (omega arith) (omega (arith, there)) in
    let alignment = bytes_at_is_take file (p + 28) 4 (p + 32) (omega arith) there in
    rw (kind, place, address, physical, count, size, flags, alignment) refl

-- ---- what is missing

number_at_refuses_short : {B : Type 0} (m n : ℕ) (bytes : List ℕ) (f : ℕ × List ℕ → Result B Refusal)
    → ((x : ℕ) (b : List ℕ) → length b < n → f (x, b) ≡ Err refusal.Short) → length bytes < m + n
    → (number_at refusal.Short m bytes >>= f) ≡ Err refusal.Short
unfolding number_at
number_at_refuses_short m n bytes f h lt = elim (cases_lt (length bytes) m) [
  | inl l ↦ rw (lt-ltb (length bytes) m l) refl
  | inr g ↦ (let left = length-drop m bytes in
      rw (le-ltb (length bytes) m g) (h (little_number m bytes) (drop m bytes) (omega (arith, left, g, lt))))
]

bytes_at_refuses_short : {B : Type 0} (m n : ℕ) (bytes : List ℕ) (f : List ℕ × List ℕ → Result B Refusal)
    → ((x b : List ℕ) → length b < n → f (x, b) ≡ Err refusal.Short) → length bytes < m + n
    → (bytes_at refusal.Short m bytes >>= f) ≡ Err refusal.Short
unfolding bytes_at
bytes_at_refuses_short m n bytes f h lt = elim (cases_lt (length bytes) m) [
  | inl l ↦ rw (lt-ltb (length bytes) m l) refl
  | inr g ↦ (let left = length-drop m bytes in
      rw (le-ltb (length bytes) m g) (h (take m bytes) (drop m bytes) (omega (arith, left, g, lt))))
]

abbrev HeaderRead : Type 0
HeaderRead = Result (Header × List ℕ) Refusal

abbrev after_flags : ℕ → ℕ → ℕ → ℕ → ℕ → ℕ × List ℕ → HeaderRead
after_flags k p a l s x = bytes_at refusal.Short 4 x.1 >>= λ y. Ok
    (record { kind = k; place = p; address = a; length = l; size = s; flags = x.0 }, y.1)

abbrev after_size : ℕ → ℕ → ℕ → ℕ → ℕ × List ℕ → HeaderRead
after_size k p a l x = number_at refusal.Short 4 x.1 >>= after_flags k p a l x.0

abbrev after_length : ℕ → ℕ → ℕ → ℕ × List ℕ → HeaderRead
after_length k p a x = number_at refusal.Short 4 x.1 >>= after_size k p a x.0

abbrev after_physical : ℕ → ℕ → ℕ → List ℕ × List ℕ → HeaderRead
after_physical k p a x = number_at refusal.Short 4 x.1 >>= after_length k p a

abbrev after_address : ℕ → ℕ → ℕ × List ℕ → HeaderRead
after_address k p x = bytes_at refusal.Short 4 x.1 >>= after_physical k p x.0

abbrev after_place : ℕ → ℕ × List ℕ → HeaderRead
after_place k x = number_at refusal.Short 4 x.1 >>= after_address k x.0

abbrev after_kind : ℕ × List ℕ → HeaderRead
after_kind x = number_at refusal.Short 4 x.1 >>= after_place x.0

header_at_refuses_short : (bytes : List ℕ) → length bytes < 32 → elf_header_at bytes ≡ Err refusal.Short
unfolding elf_header_at
header_at_refuses_short bytes lt =
    number_at_refuses_short 4 28 bytes after_kind (λ k b0. number_at_refuses_short 4 24 b0 (after_place k) (λ p b1.
    number_at_refuses_short 4 20 b1 (after_address k p) (λ a b2. bytes_at_refuses_short 4 16 b2 (after_physical k p a) (λ u b3.
    number_at_refuses_short 4 12 b3 (after_length k p a) (λ l b4. number_at_refuses_short 4 8 b4 (after_size k p a l) (λ s b5.
    number_at_refuses_short 4 4 b5 (after_flags k p a l s) (λ f b6.
    bytes_at_refuses_short 4 0 b6 (λ y. Ok (record { kind = k; place = p; address = a; length = l; size = s; flags = f }, y.1))
    (λ x b7 none. absurd (omega (arith, none))))))))))
    lt

-- ---- a number of headers

headers_at_are_headers : (file : List ℕ) (n p : ℕ) → p + 32 * n ≤ length file
    → fields_at elf_header_at n (drop p file) ≡ Ok (headers_in file p n, drop (p + 32 * n) file)
unfolding fields_at
headers_at_are_headers file zero p there =
    let same : p ≡ p + 32 * 0 = omega arith in
    ap (λ (k : ℕ). Ok ([], drop k file)) same
headers_at_are_headers file (suc n) p there =
    let same : p + 32 + 32 * n ≡ p + 32 * suc n = omega arith in
    rw (header_at_is_header_in file p (omega (arith, there)), headers_at_are_headers file n (p + 32) (omega (arith, there)))
    (ap (λ (k : ℕ). Ok (headers_in file p (suc n), drop k file)) same)

headers_refuse_short : (file : List ℕ) (n p : ℕ) → p ≤ length file → length file < p + 32 * n
    → fields_at elf_header_at n (drop p file) ≡ Err refusal.Short
unfolding fields_at
headers_refuse_short file zero p le lt = absurd (omega (arith, le, lt))
headers_refuse_short file (suc n) p le lt =
    let left = length-drop p file in
    elim (cases_lt (length file) (p + 32)) [
      | inl l ↦ rw (header_at_refuses_short (drop p file) (omega (arith, l, left, le))) refl
      | inr g ↦ rw (header_at_is_header_in file p g, headers_refuse_short file n (p + 32) g (omega (arith, lt))) refl
    ]

pub headers_agree : {B Y : Type 0} (file : List ℕ) (place number : ℕ) (f : List Header → Result B Refusal) (k : B → Result Y Refusal)
    (others : List Test) → Agrees (f (headers_in file place number) >>= k) others
    → Agrees ((bytes_at refusal.Short place file >>= λ before. fields_at elf_header_at number before.1 >>= λ hs. f hs.0) >>= k)
    (test (is_whole file place (32 * number)) refusal.Short others)
unfolding bytes_at
headers_agree file place number f k others h = elim (cases_lt (length file) place) [
  | inl l ↦ rw (lt-ltb (length file) place l, lt-leb (place + 32 * number) (length file) (omega (arith, l))) refl
  | inr g ↦ elim (cases_lt (length file) (place + 32 * number)) [
    | inl l ↦ rw
        (le-ltb (length file) place g, headers_refuse_short file number place g l, lt-leb (place + 32 * number) (length file) l) refl
    | inr le ↦ rw
        (le-ltb (length file) place g, headers_at_are_headers file number place le, le-leb (place + 32 * number) (length file) le) h
  ]
]
