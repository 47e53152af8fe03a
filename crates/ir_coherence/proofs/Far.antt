-- How often a number occurs in a list, by where those below it end and where those above it begin.
use Rattle.std.proofs.Common.{◌≡◌, ℕ, suc, zero, ◌+◌, ◌-◌, ◌<◌, ◌≤◌, cond, eqb, List, [], ◌∷◌, length, sym, ap, ◌∙◌, subst, arith, eq-eqb, ne_eqb}
use Rattle.std.proofs.lemmas.List.Sums.{sum_by-append}
use Rattle.ir_coherence.specs.Counting.{occurrences, IsBelow, IsFrom}

tail_prefix_is_below : (x : ℕ) (xs : List ℕ) (k n : ℕ) → IsBelow (x ∷ xs) k (suc n) → IsBelow xs k n
tail_prefix_is_below x xs k n h = record {
  within = let l : suc n ≤ suc (length xs) = h.within in omega (arith, l);
  each =
      λ i l. h.each (suc i) (omega arith);
}

tail_suffix_is_from : (x : ℕ) (xs : List ℕ) (k n : ℕ) → IsFrom (x ∷ xs) k (suc n) → IsFrom xs k n
tail_suffix_is_from x xs k n h = record {
  within = let l : suc n ≤ suc (length xs) = h.within in omega (arith, l);
  each =
      λ i a b. h.each (suc i) (omega arith) (omega arith);
}

tail_is_from : (x : ℕ) (xs : List ℕ) (k : ℕ) → IsFrom (x ∷ xs) k 0 → IsFrom xs k 0
tail_is_from x xs k h = record { within = omega arith; each = λ i a b. h.each (suc i) (omega arith) (omega arith) }

empty_prefix_is_below : (xs : List ℕ) (k : ℕ) → IsBelow xs k 0
empty_prefix_is_below xs k = record { within = omega arith; each = λ i l. absurd (omega arith) }

occurrences_of_cons : (v x : ℕ) (xs : List ℕ) → occurrences v (x ∷ xs) ≡ cond (eqb x v) 1 0 + occurrences v xs
occurrences_of_cons v x xs = omega (arith, sum_by-append (λ y. cond (eqb y v) 1 0) (x ∷ []) xs)

occurrences_cons_other : (v x : ℕ) (xs : List ℕ) → (x ≡ v → ⊥) → occurrences v (x ∷ xs) ≡ occurrences v xs
occurrences_cons_other v x xs ne = omega (arith, occurrences_of_cons v x xs, ap {B = ℕ} (λ b. cond b 1 0) (ne_eqb x v ne))

-- those between where the ones below v + 1 end and where the ones below v end
pub bounds_by_occurrences : (v : ℕ) (xs : List ℕ) (first end : ℕ) → IsBelow xs v first → IsFrom xs v first → IsBelow xs (v + 1) end → IsFrom xs (v + 1) end
    → end - first ≡ occurrences v xs
bounds_by_occurrences v [] first end b f c g = let l : end ≤ 0 = c.within in omega (arith, l)
bounds_by_occurrences v (x ∷ xs) zero zero b f c g =
    let above : v + 1 ≤ x = g.each 0 (omega arith) (omega arith) in
    bounds_by_occurrences v xs 0 0 (empty_prefix_is_below xs v) (tail_is_from x xs v f) (empty_prefix_is_below xs (v + 1)) (tail_is_from x xs (v + 1) g)
    ∙ sym (occurrences_cons_other v x xs (λ e. omega (arith, e, above)))
bounds_by_occurrences v (x ∷ xs) zero (suc end) b f c g =
    let from : v ≤ x = f.each 0 (omega arith) (omega arith) in
    let below : x < v + 1 = c.each 0 (omega arith) in
    let here : cond (eqb x v) 1 0 ≡ 1 = ap {B = ℕ} (λ b. cond b 1 0) (eq-eqb x v (omega arith)) in
    omega (
      arith,
      here,
      occurrences_of_cons v x xs,
      bounds_by_occurrences v xs 0 end (empty_prefix_is_below xs v) (tail_is_from x xs v f) (tail_prefix_is_below x xs (v + 1) end c)
          (tail_suffix_is_from x xs (v + 1) end g),
    )
bounds_by_occurrences v (x ∷ xs) (suc first) zero b f c g =
    let above : v + 1 ≤ x = g.each 0 (omega arith) (omega arith) in
    let below : x < v = b.each 0 (omega arith) in
    absurd (omega arith)
bounds_by_occurrences v (x ∷ xs) (suc first) (suc end) b f c g =
    let below : x < v = b.each 0 (omega arith) in
    let rest = bounds_by_occurrences v xs first end (tail_prefix_is_below x xs v first b) (tail_suffix_is_from x xs v first f)
    (tail_prefix_is_below x xs (v + 1) end c) (tail_suffix_is_from x xs (v + 1) end g)
    in
    omega (arith, rest, occurrences_cons_other v x xs (λ e. omega (arith, e, below)))

-- the same of the number before
pub bounds_by_previous : (v : ℕ) (xs : List ℕ) (first end : ℕ) → 0 < v → IsBelow xs (v - 1) first → IsFrom xs (v - 1) first → IsBelow xs v end
    → IsFrom xs v end → end - first ≡ occurrences (v - 1) xs
bounds_by_previous v xs first end l b f c g =
    let same : v ≡ v - 1 + 1 = omega (arith, l) in
    bounds_by_occurrences (v - 1) xs first end b f (subst (λ z. IsBelow xs z end) same c) (subst (λ z. IsFrom xs z end) same g)
