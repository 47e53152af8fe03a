-- Bytes from an address on, by the last byte.
use Rattle.std.proofs.Common.{◌≡◌, ◌+◌, ℕ, zero, suc, List, [], ◌∷◌, ◌++◌, refl, ap, ◌∙◌, arith}
use Rattle.std.specs.Prelude.{unwrap_or}
use Rattle.ir_mach.specs.Execution.{byte_at}
use Rattle.ir_text.specs.Texts.{bytes_from}

abbrev byte_after_bytes : List ℕ → List ℕ → ℕ → List ℕ
byte_after_bytes code memory address = unwrap_or (byte_at code memory address) 0 ∷ []

bytes_from_push : (code memory : List ℕ) (n address : ℕ)
    → bytes_from code memory (suc n) address ≡ bytes_from code memory n address ++ byte_after_bytes code memory (address + n)
unfolding bytes_from
bytes_from_push code memory zero address =
    let e : address ≡ address + 0 = omega arith in
    ap (byte_after_bytes code memory) e
bytes_from_push code memory (suc n) address =
    let e : address + 1 + n ≡ address + suc n = omega arith in
    ap (λ (xs : List ℕ). unwrap_or (byte_at code memory address) 0 ∷ xs)
    (bytes_from_push code memory n (address + 1)
    ∙ ap (λ (a : ℕ). bytes_from code memory n (address + 1) ++ byte_after_bytes code memory a) e)

pub bytes_from_step : (code memory : List ℕ) (n address : ℕ)
    → bytes_from code memory (n + 1) address
    ≡ bytes_from code memory n address ++ unwrap_or (byte_at code memory (address + n)) 0 ∷ []
bytes_from_step code memory n address =
    let e : n + 1 ≡ suc n = omega arith in
    ap (λ (k : ℕ). bytes_from code memory k address) e ∙ bytes_from_push code memory n address

pub bytes_from_zero : (code memory : List ℕ) (address : ℕ) → bytes_from code memory 0 address ≡ []
unfolding bytes_from
bytes_from_zero code memory address = refl
