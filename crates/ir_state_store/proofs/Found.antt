-- Numbers that are found by hashes.
use Rattle.std.proofs.Common.{◌≡◌, ◌⊎◌, ◌≤◌, ◌+◌, ℕ, List, [], ◌∷◌, ◌++◌, length, sym, ap, ◌∙◌, subst, arith, inl, inr, Some, None}
use Rattle.std.specs.Prelude.{slice_get}
use Rattle.std.proofs.lemmas.Bool.{cases_lt}
use Rattle.std.proofs.lemmas.Option.{same_Some}
use Rattle.ir_lemmas.proofs.CallerLemmas.{slice_get-push_cases}
use Rattle.ir_state_store.specs.Hashes.{hash_place, hashed_number_at, most_steps, IsFoundBy, KeepsFound, PassesOver}

-- the walk ends at a free place, or after the most steps
pub all_passed_none_found : (places : List (ℕ × ℕ)) (hash steps : ℕ) (P : ℕ → Type 0) → PassesOver places hash steps P
    → (hashed_number_at places (hash_place hash steps) ≡ None) ⊎ (most_steps ≤ steps) → (n : ℕ) → IsFoundBy places hash n → P n → ⊥
all_passed_none_found places hash steps P passed over n found is = elim (cases_lt found.steps steps) [
  | inl before ↦ passed found.steps n before found.at is
  | inr after ↦ elim over [
    | inl free ↦ elim (cases_lt steps found.steps) [
      | inl later ↦ found.taken steps later free
      | inr here ↦
          let same : steps ≡ found.steps = omega (arith, after, here) in
          absurd (let e : None ≡ Some n = sym free ∙ ap (λ k. hashed_number_at places (hash_place hash k)) same ∙ found.at in cc e)
    ]
    | inr many ↦ (let few = found.few in absurd (omega (arith, few, many, after)))
  ]
]

-- one place more whose number is none of these
pub passes_over_one_more : (places : List (ℕ × ℕ)) (hash steps n : ℕ) (P : ℕ → Type 0) → PassesOver places hash steps P
    → hashed_number_at places (hash_place hash steps) ≡ Some n → (P n → ⊥) → PassesOver places hash (steps + 1) P
passes_over_one_more places hash steps n P passed at isnt k m less there is = elim (cases_lt k steps) [
  | inl before ↦ passed k m before there is
  | inr late ↦
      let same : k ≡ steps = omega (arith, less, late) in
      isnt (subst P (same_Some m n (sym there ∙ ap (λ j. hashed_number_at places (hash_place hash j)) same ∙ at)) is)
]

-- one element more, which no number had
pub each_once_push : {X : Type 0} (xs : List X) (x : X)
    → ((m n : ℕ) (y : X) → slice_get xs m ≡ Some y → slice_get xs n ≡ Some y → m ≡ n)
    → ((n : ℕ) → slice_get xs n ≡ Some x → ⊥)
    → (m n : ℕ) (y : X) → slice_get (xs ++ x ∷ []) m ≡ Some y → slice_get (xs ++ x ∷ []) n ≡ Some y → m ≡ n
each_once_push xs x once new m n y here there = elim (slice_get-push_cases xs x m y here) [
  | inl a ↦ elim (slice_get-push_cases xs x n y there) [
    | inl b ↦ once m n y a b
    | inr b ↦ absurd (new m (subst (λ z. slice_get xs m ≡ Some z) (sym b.1) a))
  ]
  | inr a ↦ elim (slice_get-push_cases xs x n y there) [
    | inl b ↦ absurd (new n (subst (λ z. slice_get xs n ≡ Some z) (sym a.1) b))
    | inr b ↦ a.0 ∙ sym b.0
  ]
]

-- one element more, whose number is found by its hash too
pub each_found_push : {X : Type 0} (hash : X → ℕ) (places new : List (ℕ × ℕ)) (xs : List X) (x : X) → KeepsFound places new
    → ((n : ℕ) (y : X) → slice_get xs n ≡ Some y → IsFoundBy places (hash y) n) → IsFoundBy new (hash x) (length xs)
    → (n : ℕ) (y : X) → slice_get (xs ++ x ∷ []) n ≡ Some y → IsFoundBy new (hash y) n
each_found_push hash places new xs x keeps all is n y at = elim (slice_get-push_cases xs x n y at) [
  | inl a ↦ keeps (hash y) n (all n y a)
  | inr a ↦ subst (λ k. IsFoundBy new (hash y) k) (sym a.0) (subst (λ z. IsFoundBy new (hash z) (length xs)) a.1 is)
]
