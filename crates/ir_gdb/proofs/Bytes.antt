-- Bytes from an address on, one by one.
use Rattle.std.proofs.Common.{◌≡◌, ◌≤◌, ◌+◌, ◌∙◌, ℕ, zero, suc, List, [], ◌∷◌, ◌++◌, length, Option, Some, None, refl, sym, ap, arith}
use Rattle.ir_gdb.specs.Reads.{with_byte, bytes_there}

with_byte_push : (first : Option ℕ) (xs ys : List ℕ) (n b : ℕ) → length (with_byte first xs) ≡ suc n → (length xs ≡ n → ys ≡ xs ++ b ∷ [])
    → with_byte first ys ≡ with_byte first xs ++ b ∷ []
with_byte_push None xs ys n b len go = absurd (none n len)
  where
    none : (n : ℕ) → 0 ≡ suc n → ⊥
    none n e = omega (arith, e)
with_byte_push (Some x) xs ys n b len go = let less : length xs ≡ n = omega (arith, len) in ap (λ (zs : List ℕ). x ∷ zs) (go less)

-- all so far are there, and the next is
pub bytes_there_step : (seen : ℕ → Option ℕ) (n address b : ℕ) → length (bytes_there seen n address) ≡ n → seen (address + n) ≡ Some b
    → bytes_there seen (n + 1) address ≡ bytes_there seen n address ++ b ∷ []
unfolding bytes_there
bytes_there_step seen zero address b len is =
    let same : address ≡ address + 0 = omega arith in ap (λ (first : Option ℕ). with_byte first []) (ap seen same ∙ is)
bytes_there_step seen (suc n) address b len is =
    let next : address + suc n ≡ address + 1 + n = omega arith in
    let up : suc n + 1 ≡ suc (n + 1) = omega arith in
    ap (λ (k : ℕ). bytes_there seen k address) up ∙ with_byte_push (seen address) (bytes_there seen n (address + 1)) (bytes_there seen (n + 1) (address + 1)) n b len
    (λ less. bytes_there_step seen n (address + 1) b less (ap seen (sym next) ∙ is))

with_byte_of_equal_tail : (first : Option ℕ) (xs ys : List ℕ) (n : ℕ) → length (with_byte first xs) ≡ suc n → (length xs ≡ n → ys ≡ xs)
    → with_byte first ys ≡ with_byte first xs
with_byte_of_equal_tail None xs ys n len go = refl
with_byte_of_equal_tail (Some x) xs ys n len go = let less : length xs ≡ n = omega (arith, len) in ap (λ (zs : List ℕ). x ∷ zs) (go less)

-- all so far are there, and the next isn't
pub bytes_end_at_missing : (seen : ℕ → Option ℕ) (n count address : ℕ) → n ≤ count → length (bytes_there seen n address) ≡ n
    → seen (address + n) ≡ None → bytes_there seen count address ≡ bytes_there seen n address
unfolding bytes_there
bytes_end_at_missing seen zero zero address within len is = refl
bytes_end_at_missing seen zero (suc count) address within len is =
    let same : address ≡ address + 0 = omega arith in
    ap (λ (first : Option ℕ). with_byte first (bytes_there seen count (address + 1))) (ap seen same ∙ is)
bytes_end_at_missing seen (suc n) zero address within len is = absurd (none n within)
  where
    none : (n : ℕ) → suc n ≤ 0 → ⊥
    none n h = omega (arith, h)
bytes_end_at_missing seen (suc n) (suc count) address within len is =
    let next : address + suc n ≡ address + 1 + n = omega arith in
    with_byte_of_equal_tail (seen address) (bytes_there seen n (address + 1)) (bytes_there seen count (address + 1)) n len
    (λ less. bytes_end_at_missing seen n count (address + 1) (omega (arith, within)) less (ap seen (sym next) ∙ is))

pub bytes_there_of_no_count : (seen : ℕ → Option ℕ) (address : ℕ) → bytes_there seen 0 address ≡ []
unfolding bytes_there
bytes_there_of_no_count seen address = refl
