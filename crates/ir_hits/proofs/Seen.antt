-- Loops over points, and over the positions of threads.
use Rattle.std.proofs.Common.{◌≡◌, ℕ, ◌+◌, ◌<◌, ◌≤◌, List, length, get_or, Option, Some, None, refl, sym, ap, ◌∙◌, subst, inl, inr, arith}
use Rattle.std.specs.Prelude.{slice_get, min, replicate}
use Rattle.std.proofs.lemmas.Bool.{cases_eq, cases_lt}
use Rattle.std.proofs.lemmas.Option.{same_Some, slice_get_within, slice_get_read, slice_get-get_or, get_or_from_slice_get}
use Rattle.std.proofs.lemmas.List.{get_or-replicate, length-replicate}
use Rattle.ir_thread.specs.State.{ThreadState}
use Rattle.ir_command.specs.declared.command.Point.{Point}
use Rattle.ir_hits.specs.Hits.{Numbered}
use Rattle.ir_hits.specs.Seeing.{Concerns, IsNoted, SeesHit, SeesHitAt, IsLowestOf, lower_of}
use Rattle.ir_hits.specs.declared.before.Before.{Before}
use Rattle.ir_hits.specs.declared.before.Before.TheVariants.{Nothing}

-- ---- elements

same_index_equal : {X : Type 0} (xs : List X) (i j : ℕ) (x y : X) → slice_get xs i ≡ Some x → slice_get xs j ≡ Some y → j ≡ i → x ≡ y
same_index_equal xs i j x y one two same = same_Some x y (sym one ∙ ap (slice_get xs) (sym same) ∙ two)

-- ---- points that may hit

-- none of the first n points concerns thread t
abbrev pub NoneConcerns : ℕ → List Numbered → ℕ → Type 0
NoneConcerns t points n = (j : ℕ) (p : Numbered) → j < n → slice_get points j ≡ Some p → Concerns t p.point → ⊥

-- ---- what points note

-- the first n points noted what they had to
abbrev pub AreFirstNoted : List ℕ → ℕ → ThreadState → List Numbered → List Before → ℕ → Type 0
AreFirstNoted code t x points notes n = (j : ℕ) (p : Numbered) (b : Before) → j < n → slice_get points j ≡ Some p → slice_get notes j ≡ Some b
    → IsNoted code t x p.point b

-- a list of one value holds no other
pub replicated_nothing_entry : (n i : ℕ) (b : Before) → slice_get (replicate n Nothing) i ≡ Some b → b ≡ Nothing
replicated_nothing_entry n i b is =
    let l : i < n = let l = slice_get_within (replicate n Nothing) i b is in let e = length-replicate n Nothing in omega (arith, l, e) in
    sym (get_or_from_slice_get (replicate n Nothing) i b b is) ∙ get_or-replicate n i Nothing b l

-- ---- the lowest number

-- the next point doesn't hit
pub lowest_past_no_hit : (t last : ℕ) (y : ThreadState) (notes : List Before) (points : List Numbered) (n : ℕ) (q : Numbered) (b : Before)
    → slice_get points n ≡ Some q → slice_get notes n ≡ Some b → (SeesHit t last y b q.point → ⊥) → (found : Option ℕ)
    → IsLowestOf t last y notes points n found → IsLowestOf t last y notes points (n + 1) found
lowest_past_no_hit t last y notes points n q b is was not found h = by found h
  where
    misses : (i : ℕ) (p : Numbered) → i ≡ n → SeesHitAt t last y notes points i p → ⊥
    misses i p same g = not (subst (λ (z : Numbered × Before). SeesHit t last y z.1 z.0.point)
        (λ k. (sym (same_index_equal points n i q p is g.0 same) k, sym (same_index_equal notes n i b g.1 was g.2 same) k)) g.3)

    by : (found : Option ℕ) → IsLowestOf t last y notes points n found → IsLowestOf t last y notes points (n + 1) found
    by None none = λ i p less g. elim (cases_eq i n) [
      | inl same ↦ misses i p same g
      | inr ne ↦ none i p (omega (arith, less, ne)) g
    ]
    by (Some m) some = (
      some.0,
      λ i p less g. elim (cases_eq i n) [
        | inl same ↦ absurd (misses i p same g)
        | inr ne ↦ some.1 i p (omega (arith, less, ne)) g
      ],
    )

-- it does, and its number is the lowest so far
pub lowest_is_first_hit : (t last : ℕ) (y : ThreadState) (notes : List Before) (points : List Numbered) (n : ℕ) (q : Numbered) (b : Before)
    → slice_get points n ≡ Some q → slice_get notes n ≡ Some b → SeesHit t last y b q.point
    → ((i : ℕ) (p : Numbered) → i < n → SeesHitAt t last y notes points i p → q.number ≤ p.number)
    → IsLowestOf t last y notes points (n + 1) (Some q.number)
lowest_is_first_hit t last y notes points n q b is was hits low = (
  (n, q, (is, b, was, hits), refl),
  λ i p less g. elim (cases_eq i n) [
    | inl same ↦ let e : q.number ≡ p.number = ap (λ (z : Numbered). z.number) (same_index_equal points n i q p is g.0 same) in omega (arith, e)
    | inr ne ↦ low i p (omega (arith, less, ne)) g
  ],
)

-- it does, and the lowest is another's
lowest_stays_lower : (t last : ℕ) (y : ThreadState) (notes : List Before) (points : List Numbered) (n m : ℕ) (q : Numbered)
    → slice_get points n ≡ Some q → m ≤ q.number → IsLowestOf t last y notes points n (Some m)
    → IsLowestOf t last y notes points (n + 1) (Some m)
lowest_stays_lower t last y notes points n m q is low some = (
  some.0,
  λ i p less g. elim (cases_eq i n) [
    | inl same ↦ let e : q.number ≡ p.number = ap (λ (z : Numbered). z.number) (same_index_equal points n i q p is g.0 same) in omega (arith, e, low)
    | inr ne ↦ some.1 i p (omega (arith, less, ne)) g
  ],
)

-- the lowest number so far, and the next that hits
pub lowest_is_lower_of : (t last : ℕ) (y : ThreadState) (notes : List Before) (points : List Numbered) (n : ℕ) (q : Numbered) (b : Before)
    → slice_get points n ≡ Some q → slice_get notes n ≡ Some b → SeesHit t last y b q.point → (found : Option ℕ)
    → IsLowestOf t last y notes points n found → IsLowestOf t last y notes points (n + 1) (Some (lower_of found q.number))
lowest_is_lower_of t last y notes points n q b is was hits None none =
    lowest_is_first_hit t last y notes points n q b is was hits (λ i p less g. absurd (none i p less g))
lowest_is_lower_of t last y notes points n q b is was hits (Some m) some = elim (cases_lt q.number m) [
  | inl l ↦ subst (λ z. IsLowestOf t last y notes points (n + 1) (Some z)) (let e : q.number ≡ min m q.number = omega (arith, l) in e)
      (lowest_is_first_hit t last y notes points n q b is was hits (λ i p less g. let a = some.1 i p less g in omega (arith, a, l)))
  | inr past ↦ subst (λ z. IsLowestOf t last y notes points (n + 1) (Some z)) (let e : m ≡ min m q.number = omega (arith, past) in e)
      (lowest_stays_lower t last y notes points n m q is past some)
]

-- the same of what is read of both lists
pub lowest_step_no_hit : (t last : ℕ) (y : ThreadState) (notes : List Before) (points : List Numbered) (n : ℕ) (q : Numbered) (d : Before) (at : Point)
    → n < length points → length notes ≡ length points → q ≡ get_or points n q → at ≡ q.point → (SeesHit t last y (get_or notes n d) at → ⊥)
    → (found next : Option ℕ) → next ≡ found → IsLowestOf t last y notes points n found → IsLowestOf t last y notes points (n + 1) next
lowest_step_no_hit t last y notes points n q d at l size is of not found next same h =
    subst (IsLowestOf t last y notes points (n + 1)) (sym same)
    (lowest_past_no_hit t last y notes points n q (get_or notes n d) (slice_get_read points (length points) n q refl l is)
    (slice_get-get_or notes n d (omega (arith, l, size))) (λ g. not (subst (SeesHit t last y (get_or notes n d)) (sym of) g)) found h)

pub lowest_step_hit : (t last : ℕ) (y : ThreadState) (notes : List Before) (points : List Numbered) (n : ℕ) (q : Numbered) (d : Before) (at : Point)
    → n < length points → length notes ≡ length points → q ≡ get_or points n q → at ≡ q.point → SeesHit t last y (get_or notes n d) at
    → (found next : Option ℕ) (number lower : ℕ) → number ≡ q.number → lower ≡ lower_of found number → next ≡ Some lower
    → IsLowestOf t last y notes points n found → IsLowestOf t last y notes points (n + 1) next
lowest_step_hit t last y notes points n q d at l size is of hits found next number lower named low same h =
    subst (IsLowestOf t last y notes points (n + 1)) (sym (same ∙ ap Some (low ∙ ap (lower_of found) named)))
    (lowest_is_lower_of t last y notes points n q (get_or notes n d) (slice_get_read points (length points) n q refl l is)
    (slice_get-get_or notes n d (omega (arith, l, size))) (subst (SeesHit t last y (get_or notes n d)) of hits) found h)
