-- Each of a list's elements.
use Rattle.std.proofs.Common.{◌≡◌, ◌+◌, ◌<◌, ℕ, List, [], ◌∷◌, ◌++◌, length, length-append, sym, ap, ◌∙◌, subst, arith, inl, inr}
use Rattle.std.specs.List.{slice_index_or}
use Rattle.std.specs.List.Sorted.{IsPermutation}
use Rattle.std.proofs.lemmas.Bool.{cases_lt}
use Rattle.std.proofs.lemmas.List.{get_or_default}
use Rattle.std.proofs.lemmas.List.Sorted.{Contains-permutation, IsPermutation-sym}
use Rattle.std.proofs.Math.ListN.{get_or-append}
use Rattle.std.proofs.Math.Seq.{get_or-append_seam}

-- each of a list and one more
pub each_element_after_push : {X : Type 0} (P : X → Type 0) (xs ys : List X) (x : X) → ((i : ℕ) (d : X) → i < length xs → P (slice_index_or xs i d)) → P x
    → ys ≡ xs ++ x ∷ [] → (i : ℕ) (d : X) → i < length ys → P (slice_index_or ys i d)
each_element_after_push P xs ys x each last e i d l = subst (λ zs. P (slice_index_or zs i d)) (sym e) (elim (cases_lt i (length xs)) [
  | inl before ↦ subst P (sym (get_or-append xs (x ∷ []) d i before)) (each i d before)
  | inr past ↦
      let n = length-append xs (x ∷ []) in
      let size : length ys ≡ length xs + 1 = ap length e ∙ n in
      let at : i ≡ length xs = omega (arith, past, l, size) in
      subst (λ j. P (slice_index_or (xs ++ x ∷ []) j d)) (sym at) (subst P (sym (get_or-append_seam xs x [] d)) last)
])

-- each of a list in another order
pub permuted_all_satisfy : {X : Type 0} (P : X → Type 0) (xs ys : List X) → IsPermutation xs ys → ((i : ℕ) (d : X) → i < length xs → P (slice_index_or xs i d))
    → (i : ℕ) (d : X) → i < length ys → P (slice_index_or ys i d)
permuted_all_satisfy {X} P xs ys same each i d l =
    let y : X = slice_index_or ys i d in
    let there = Contains-permutation ys xs y (IsPermutation-sym xs ys same) (i, l, get_or_default ys i y d l) in
    subst P there.2 (each there.0 y there.1)

-- and one of it, by its number
pub permuted_element_exists : {X : Type 0} (number : X → ℕ) (any : X) (xs ys : List X) → IsPermutation xs ys → (n i : ℕ) → i < length xs
    → ((d : X) → number (slice_index_or xs i d) ≡ n) → (j : ℕ) × (j < length ys) × ((d : X) → number (slice_index_or ys j d) ≡ n)
permuted_element_exists {X} number any xs ys same n i l is =
    let x : X = slice_index_or xs i any in
    let there = Contains-permutation xs ys x same (i, l, get_or_default xs i x any l) in (
      there.0,
      there.1,
      λ d. ap number (get_or_default ys there.0 d x there.1 ∙ there.2) ∙ is any,
    )
