-- The rows of the threads.
use Rattle.std.proofs.Common.{◌≡◌, ℕ, suc, zero, ◌<◌, Bool, Some, List, [], ◌∷◌, ◌++◌, ◌+◌, ◌⊎◌, inl, inr, length, get_or, slice_set, refl, ap, ◌∙◌, arith}
use Rattle.std.specs.Prelude.{slice_get, replicate}
use Rattle.std.specs.Global.{Vec}
use Rattle.std.proofs.lemmas.Option.{same_Some}
use Rattle.ir_search.specs.Levels.{rows}

pub slice_get-rows : (vs : List (Vec Bool)) (t : ℕ) (d : Vec Bool) → t < length vs → slice_get (rows vs) t ≡ Some (get_or vs t d).items
slice_get-rows [] t d l = absurd (omega (arith, l))
slice_get-rows (v ∷ vs) zero d l = refl
slice_get-rows (v ∷ vs) (suc t) d l = slice_get-rows vs t d (omega (arith, l))

-- a row of a list in which one was replaced: that one, or another that stays
pub row_after_set_cases : (vs : List (Vec Bool)) (i t : ℕ) (w : Vec Bool) (row : List Bool) → i < length vs
    → slice_get (rows (slice_set vs i w)) t ≡ Some row
    → ((t ≡ i) × (w.items ≡ row)) ⊎ ((t ≡ i → ⊥) × (slice_get (rows vs) t ≡ Some row))
row_after_set_cases [] i t w row l e = absurd (omega (arith, l))
row_after_set_cases (v ∷ vs) zero zero w row l e = inl (refl, same_Some w.items row e)
row_after_set_cases (v ∷ vs) zero (suc t) w row l e = inr ((λ z. let n : suc t ≡ zero = z in omega (arith, n)), e)
row_after_set_cases (v ∷ vs) (suc i) zero w row l e = inr ((λ z. let n : zero ≡ suc i = z in omega (arith, n)), e)
row_after_set_cases (v ∷ vs) (suc i) (suc t) w row l e = elim (row_after_set_cases vs i t w row (omega (arith, l)) e) [
  | inl p ↦ inl (ap suc p.0, p.1)
  | inr n ↦ inr ((λ z. n.0 (let q : suc t ≡ suc i = z in omega (arith, q))), n.1)
]

pub rows_of_pushed : (vs : List (Vec Bool)) (v : Vec Bool) → rows (vs ++ v ∷ []) ≡ rows vs ++ v.items ∷ []
rows_of_pushed [] v = refl
rows_of_pushed (w ∷ vs) v = ap (λ z. w.items ∷ z) (rows_of_pushed vs v)

replicate_append_one : (n : ℕ) → (replicate n [] ++ [] ∷ []) ≡ replicate {A = List Bool} (suc n) []
replicate_append_one zero = refl
replicate_append_one (suc n) = ap (λ z. [] ∷ z) (replicate_append_one n)

pub empty_row_pushed : (vs : List (Vec Bool)) (v : Vec Bool) (n : ℕ) → rows vs ≡ replicate n [] → v.items ≡ []
    → rows (vs ++ v ∷ []) ≡ replicate (n + 1) []
empty_row_pushed vs v n e none =
    let more : suc n ≡ n + 1 = omega arith in
    rows_of_pushed vs v ∙ ap (λ z. z ++ v.items ∷ []) e ∙ ap (λ z. replicate n [] ++ z ∷ []) none ∙ replicate_append_one n
    ∙ ap (λ z. replicate z []) more

pub length_of_rows : (vs : List (Vec Bool)) → length (rows vs) ≡ length vs
length_of_rows [] = refl
length_of_rows (v ∷ vs) = ap suc (length_of_rows vs)

pub length-empty_rows : (n : ℕ) → length (replicate {A = List Bool} n []) ≡ n
length-empty_rows zero = refl
length-empty_rows (suc n) = ap suc (length-empty_rows n)
