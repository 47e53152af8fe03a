-- Tables of counts by objects.
use Rattle.std.proofs.Common.{◌≡◌, ℕ, suc, zero, ◌+◌, ◌<◌, ◌⊎◌, inl, inr, Some, None, cond, eqb, List, [], ◌∷◌, ◌++◌, length, get_or, slice_set, refl, sym, ap, ◌∙◌, subst, arith, eq-eqb, ne_eqb}
use Rattle.std.specs.Prelude.{slice_get}
use Rattle.std.specs.Option.{option_map_or}
use Rattle.std.proofs.lemmas.Bool.{cases_eq}
use Rattle.std.proofs.lemmas.Option.{same_Some}
use Rattle.ir_coherence.specs.Counting.{count_at, OneMore}
use Rattle.ir_coherence.specs.declared.version_counts.VersionCounts.{VersionCounts}
use Rattle.ir_coherence.specs.declared.entry_counts.ObjectCounts.{ObjectCounts}

-- what f says of element o, or 0
abbrev pub value_at_place : {X : Type 0} → (X → ℕ) → List X → ℕ → ℕ
value_at_place f xs o = option_map_or f (slice_get xs o) 0

value_at_element_place : {X : Type 0} (f : X → ℕ) (xs : List X) (i : ℕ) (x : X) → i < length xs → get_or xs i x ≡ x → value_at_place f xs i ≡ f x
value_at_element_place f [] i x l e = absurd (omega arith)
value_at_element_place f (y ∷ ys) zero x l e = ap f e
value_at_element_place f (y ∷ ys) (suc i) x l e = value_at_element_place f ys i x (omega arith) e

value_at_set_place : {X : Type 0} (f : X → ℕ) (xs : List X) (i : ℕ) (w : X) → i < length xs → value_at_place f (slice_set xs i w) i ≡ f w
value_at_set_place f [] i w l = absurd (omega arith)
value_at_set_place f (y ∷ ys) zero w l = refl
value_at_set_place f (y ∷ ys) (suc i) w l = value_at_set_place f ys i w (omega arith)

value_at_other_set : {X : Type 0} (f : X → ℕ) (xs : List X) (i o : ℕ) (w : X) → (i ≡ o → ⊥) → value_at_place f (slice_set xs i w) o ≡ value_at_place f xs o
value_at_other_set f [] i o w ne = refl
value_at_other_set f (y ∷ ys) zero zero w ne = absurd (ne refl)
value_at_other_set f (y ∷ ys) zero (suc o) w ne = refl
value_at_other_set f (y ∷ ys) (suc i) zero w ne = refl
value_at_other_set f (y ∷ ys) (suc i) (suc o) w ne = value_at_other_set f ys i o w (λ e. ne (ap suc e))

-- element i is written, of which f says n more
value_at_increased : {X : Type 0} (f : X → ℕ) (xs : List X) (i o : ℕ) (x w : X) (n : ℕ) → i < length xs → get_or xs i x ≡ x → f w ≡ f x + n
    → value_at_place f (slice_set xs i w) o ≡ value_at_place f xs o + cond (eqb i o) n 0
value_at_increased f xs i o x w n l e more = elim (cases_eq i o) [
  | inl here ↦ subst (λ z. value_at_place f (slice_set xs i w) z ≡ value_at_place f xs z + cond (eqb i z) n 0) here
      (omega (arith, value_at_set_place f xs i w l, more, value_at_element_place f xs i x l e, ap {B = ℕ} (λ b. cond b n 0) (eq-eqb i i refl)))
  | inr ne ↦ omega (arith, value_at_other_set f xs i o w ne, ap {B = ℕ} (λ b. cond b n 0) (ne_eqb i o ne))
]

-- f says as much of the element that is written
pub value_at_equal_set : {X : Type 0} (f : X → ℕ) (xs : List X) (i o : ℕ) (x w : X) → i < length xs → get_or xs i x ≡ x → f w ≡ f x
    → value_at_place f (slice_set xs i w) o ≡ value_at_place f xs o
value_at_equal_set f xs i o x w l e same = elim (cases_eq i o) [
  | inl here ↦ subst (λ z. value_at_place f (slice_set xs i w) z ≡ value_at_place f xs z) here (value_at_set_place f xs i w l ∙ same ∙ sym (value_at_element_place f xs i x l e))
  | inr ne ↦ value_at_other_set f xs i o w ne
]

-- what is in the list is what is written, or was there before
pub slice_get_set_cases : {X : Type 0} (xs : List X) (i o : ℕ) (w y : X) → slice_get (slice_set xs i w) o ≡ Some y → (y ≡ w)
    ⊎ ((i ≡ o → ⊥) × (slice_get xs o ≡ Some y))
slice_get_set_cases [] i o w y e = absurd (let bad : None ≡ Some y = e in cc)
slice_get_set_cases (x ∷ xs) zero zero w y e = inl (sym (same_Some w y e))
slice_get_set_cases (x ∷ xs) zero (suc o) w y e = inr ((λ q. absurd (omega (arith, q))), e)
slice_get_set_cases (x ∷ xs) (suc i) zero w y e = inr ((λ q. absurd (omega (arith, q))), e)
slice_get_set_cases (x ∷ xs) (suc i) (suc o) w y e = elim (slice_get_set_cases xs i o w y e) [
  | inl h ↦ inl h
  | inr h ↦ inr ((λ q. h.0 (omega (arith, q))), h.1)
]

pub zero_push_keeps_values : {X : Type 0} (f : X → ℕ) (xs : List X) (x : X) (o : ℕ) → f x ≡ 0 → ((p : ℕ) → value_at_place f xs p ≡ 0) → value_at_place f (xs ++ x ∷ []) o ≡ 0
zero_push_keeps_values f [] x zero e h = e
zero_push_keeps_values f [] x (suc o) e h = refl
zero_push_keeps_values f (y ∷ ys) x zero e h = h 0
zero_push_keeps_values f (y ∷ ys) x (suc o) e h = zero_push_keeps_values f ys x o e (λ p. h (suc p))

sum_with_zeros : (k : ℕ) → k ≡ k + (0 + 0)
sum_with_zeros k = omega arith

pub reads_after_read : (xs : List ObjectCounts) (i w : ℕ) (x : ObjectCounts) (new : VersionCounts) → i < length xs → get_or xs i x ≡ x
    → OneMore x.reads new w
    → (o v : ℕ) → value_at_place (λ z. count_at z.reads v) (slice_set xs i record { reads = new; writes = x.writes }) o ≡ value_at_place (λ z. count_at z.reads v) xs o +
    (cond (eqb i o) (cond (eqb w v) 1 0) 0 + 0)
reads_after_read xs i w x new l e more o v = omega (
  arith,
  value_at_increased (λ z. count_at z.reads v) xs i o x record { reads = new; writes = x.writes }
      (cond (eqb w v) 1 0) l e (more v),
)

pub read_keeps_writes : (xs : List ObjectCounts) (i : ℕ) (x : ObjectCounts) (new : VersionCounts) → i < length xs → get_or xs i x ≡ x
    → (o v : ℕ) → value_at_place (λ z. count_at z.writes v) (slice_set xs i record { reads = new; writes = x.writes }) o ≡ value_at_place (λ z. count_at z.writes v) xs o
    + (0 + 0)
read_keeps_writes xs i x new l e o v = value_at_equal_set (λ z. count_at z.writes v) xs i o x record { reads = new; writes = x.writes } l e refl ∙ sum_with_zeros
    (value_at_place (λ z. count_at z.writes v) xs o)

pub writes_after_write : (xs : List ObjectCounts) (i w : ℕ) (x : ObjectCounts) (new : VersionCounts) → i < length xs → get_or xs i x ≡ x
    → OneMore x.writes new w
    → (o v : ℕ) → value_at_place (λ z. count_at z.writes v) (slice_set xs i record { reads = x.reads; writes = new }) o ≡ value_at_place (λ z. count_at z.writes v) xs o +
    (cond (eqb i o) (cond (eqb w v) 1 0) 0 + 0)
writes_after_write xs i w x new l e more o v = omega (
  arith,
  value_at_increased (λ z. count_at z.writes v) xs i o x record { reads = x.reads; writes = new }
      (cond (eqb w v) 1 0) l e (more v),
)

pub write_keeps_reads : (xs : List ObjectCounts) (i : ℕ) (x : ObjectCounts) (new : VersionCounts) → i < length xs → get_or xs i x ≡ x
    → (o v : ℕ) → value_at_place (λ z. count_at z.reads v) (slice_set xs i record { reads = x.reads; writes = new }) o ≡ value_at_place (λ z. count_at z.reads v) xs o +
    (0 + 0)
write_keeps_reads xs i x new l e o v = value_at_equal_set (λ z. count_at z.reads v) xs i o x record { reads = x.reads; writes = new } l e refl ∙ sum_with_zeros
    (value_at_place (λ z. count_at z.reads v) xs o)

-- what is counted of an object may grow as all counts may
pub element_value_has_room : {X : Type 0} (f : X → ℕ) (xs : List X) (i : ℕ) (x : X) (n : ℕ) → i < length xs → get_or xs i x ≡ x → value_at_place f xs i + 1 < n
    → f x + 1 < n
element_value_has_room f xs i x n l e h = omega (arith, value_at_element_place f xs i x l e)
