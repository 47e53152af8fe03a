-- What a stale write read, among stale writes that come by rising thread and event.
use Rattle.std.proofs.Common.{◌≡◌, ℕ, zero, suc, ◌<◌, ◌≤◌, ◌⊎◌, inl, inr, Bool, true, false, Some, None, List, [], ◌∷◌, length, get_or, refl, sym, ap, ◌∙◌, subst, arith, eqb, ltb}
use Rattle.std.specs.Prelude.{slice_get, ◌&&◌, ◌||◌, ◌==◌, if◌then◌else◌}
use Rattle.std.specs.List.Sorted.{IsPartitionPoint, IsPartitionedBy}
use Rattle.std.proofs.lemmas.Bool.{cases_eq, cases_lt, lt-ltb, ltb-true, true≢false, false≢true}
use Rattle.std.proofs.lemmas.Bool.Decides.{eqb_tells}
use Rattle.std.proofs.lemmas.Option.{same_Some, none-some, slice_get-get_or, slice_get_within, get_or_from_slice_get}
use Rattle.ir_coherence.specs.Before.{IsBefore}
use Rattle.ir_past.specs.Past.{IsRising}
use Rattle.ir_past.specs.declared.stale_write.StaleWrite.{StaleWrite}
use Rattle.ir_picture.specs.Chrome.{stale_at}
use Rattle.ir_picture.specs.Progress.{comes_before}

ltb_tells_less : (a b : ℕ) → ((ltb a b ≡ true) × (a < b)) ⊎ ((ltb a b ≡ false) × (a < b → ⊥))
ltb_tells_less a b = by (ltb a b) refl
  where
    by : (x : Bool) → ltb a b ≡ x → ((ltb a b ≡ true) × (a < b)) ⊎ ((ltb a b ≡ false) × (a < b → ⊥))
    by true is = inl (is, ltb-true a b is)
    by false is = inr (is, λ less. true≢false (sym (lt-ltb a b less) ∙ is))

-- the flag tells which comes first
comes_before_test : (t i : ℕ) (x : StaleWrite) → ((comes_before t i x ≡ true) × IsBefore x.thread x.event t i)
    ⊎ ((comes_before t i x ≡ false) × (IsBefore x.thread x.event t i → ⊥))
comes_before_test t i x = elim (ltb_tells_less x.thread t) [
  | inl holds ↦ inl (ap (λ z. z || (eqb x.thread t && ltb x.event i)) holds.0, inl holds.1)
  | inr fails ↦ elim (eqb_tells x.thread t) [
    | inl same ↦ elim (ltb_tells_less x.event i) [
      | inl less ↦ inl (
        ap (λ z. z || (eqb x.thread t && ltb x.event i)) fails.0 ∙ ap (λ z. z && ltb x.event i) same.0 ∙ less.0,
        inr (same.1, less.1),
      )
      | inr more ↦ inr (
        ap (λ z. z || (eqb x.thread t && ltb x.event i)) fails.0 ∙ ap (λ z. z && ltb x.event i) same.0 ∙ more.0,
        λ is. neither is fails.1 (λ p. more.1 p.1),
      )
    ]
    | inr other ↦ inr (
      ap (λ z. z || (eqb x.thread t && ltb x.event i)) fails.0 ∙ ap (λ z. z && ltb x.event i) other.0,
      λ is. neither is fails.1 (λ p. other.1 p.0),
    )
  ]
]
  where
    neither : {A B : Type 0} → A ⊎ B → (A → ⊥) → (B → ⊥) → ⊥
    neither (inl a) f g = f a
    neither (inr b) f g = g b

pub comes_before_sound : (t i : ℕ) (x : StaleWrite) → comes_before t i x ≡ true → IsBefore x.thread x.event t i
comes_before_sound t i x is = elim (comes_before_test t i x) [
  | inl holds ↦ holds.1
  | inr fails ↦ absurd (false≢true (sym fails.0 ∙ is))
]

pub comes_before_false : (t i : ℕ) (x : StaleWrite) → comes_before t i x ≡ false → IsBefore x.thread x.event t i → ⊥
comes_before_false t i x is = elim (comes_before_test t i x) [
  | inl holds ↦ absurd (true≢false (sym holds.0 ∙ is))
  | inr fails ↦ fails.1
]

comes_before_complete : (t i : ℕ) (x : StaleWrite) → IsBefore x.thread x.event t i → comes_before t i x ≡ true
comes_before_complete t i x before = elim (comes_before_test t i x) [
  | inl holds ↦ holds.0
  | inr fails ↦ absurd (fails.1 before)
]

pub before_transitive : (a b c d e f : ℕ) → IsBefore a b c d → IsBefore c d e f → IsBefore a b e f
before_transitive a b c d e f (inl x) (inl y) = inl (omega (arith, x, y))
before_transitive a b c d e f (inl x) (inr y) = let same = y.0 in inl (omega (arith, x, same))
before_transitive a b c d e f (inr x) (inl y) = let same = x.0 in inl (omega (arith, same, y))
before_transitive a b c d e f (inr x) (inr y) =
    let one = x.0 in let two = y.0 in let less = x.1 in let more = y.1 in inr (omega (arith, one, two), omega (arith, less, more))

before_irreflexive : (a b : ℕ) → IsBefore a b a b → ⊥
before_irreflexive a b (inl x) = omega (arith, x)
before_irreflexive a b (inr x) = let less = x.1 in omega (arith, less)

-- those that come before an event are the first
pub stale_split_by_event : (t i : ℕ) (xs : List StaleWrite) → IsRising xs → IsPartitionedBy (comes_before t i) xs
stale_split_by_event t i xs rising a b d at within is = elim (cases_lt a b) [
  | inl less ↦ comes_before_complete t i (get_or xs a d)
      (before_transitive (get_or xs a d).thread (get_or xs a d).event (get_or xs b d).thread (get_or xs b d).event t i
      (rising a b (get_or xs a d) (get_or xs b d) less (slice_get-get_or xs a d (omega (arith, less, within))) (slice_get-get_or xs b d within))
      (comes_before_sound t i (get_or xs b d) is))
  | inr not ↦ let same : b ≡ a = omega (arith, at, not) in subst (λ n. comes_before t i (get_or xs n d) ≡ true) same is
]

pub before_below_partition : (t i n : ℕ) (xs : List StaleWrite)
    → IsPartitionPoint (λ (x : StaleWrite). comes_before t i x ≡ true) (λ x. comes_before t i x ≡ false) xs n → (k : ℕ) (x : StaleWrite) → k < n
    → slice_get xs k ≡ Some x → IsBefore x.thread x.event t i
before_below_partition t i n xs point k x less at = comes_before_sound t i x
    (subst (λ z. comes_before t i z ≡ true) (get_or_from_slice_get xs k x x at) (point.0 k x (omega arith) less))

pub not_before_partition : (t i n : ℕ) (xs : List StaleWrite)
    → IsPartitionPoint (λ (x : StaleWrite). comes_before t i x ≡ true) (λ x. comes_before t i x ≡ false) xs n → (k : ℕ) (x : StaleWrite) → n ≤ k
    → slice_get xs k ≡ Some x → IsBefore x.thread x.event t i → ⊥
not_before_partition t i n xs point k x more at = comes_before_false t i x
    (subst (λ z. comes_before t i z ≡ false) (get_or_from_slice_get xs k x x at) (point.1 k x more (slice_get_within xs k x at)))

-- ---- what is read

-- a stale write is at event i of thread t
abbrev IsStaleWriteAt : StaleWrite → ℕ → ℕ → Type 0
IsStaleWriteAt x t i = (x.thread ≡ t) × (x.event ≡ i)

stale_at_event_test : (x : StaleWrite) (t i : ℕ) → (((x.thread == t) && (x.event == i)) ≡ true × IsStaleWriteAt x t i)
    ⊎ ((((x.thread == t) && (x.event == i)) ≡ false) × (IsStaleWriteAt x t i → ⊥))
stale_at_event_test x t i = elim (eqb_tells x.thread t) [
  | inl same ↦ elim (eqb_tells x.event i) [
    | inl here ↦ inl (ap (λ z. z && eqb x.event i) same.0 ∙ here.0, (same.1, here.1))
    | inr fails ↦ inr (ap (λ z. z && eqb x.event i) same.0 ∙ fails.0, λ p. fails.1 p.1)
  ]
  | inr other ↦ inr (ap (λ z. z && eqb x.event i) other.0, λ p. other.1 p.0)
]

stale_at_cons_if_matching : {A : Type 0} (write : A → StaleWrite) (x : A) (xs : List A) (t i : ℕ) → IsStaleWriteAt (write x) t i
    → stale_at write (x ∷ xs) t i ≡ Some x
unfolding stale_at
stale_at_cons_if_matching write x xs t i at = elim (stale_at_event_test (write x) t i) [
  | inl holds ↦ ap (λ (z : Bool). if z then Some x else stale_at write xs t i) holds.0
  | inr fails ↦ absurd (fails.1 at)
]

stale_at_cons_unless_matching : {A : Type 0} (write : A → StaleWrite) (x : A) (xs : List A) (t i : ℕ) → (IsStaleWriteAt (write x) t i → ⊥)
    → stale_at write (x ∷ xs) t i ≡ stale_at write xs t i
unfolding stale_at
stale_at_cons_unless_matching write x xs t i not = elim (stale_at_event_test (write x) t i) [
  | inl holds ↦ absurd (not holds.1)
  | inr fails ↦ ap (λ (z : Bool). if z then Some x else stale_at write xs t i) fails.0
]

stale_at_none_matching : {A : Type 0} (write : A → StaleWrite) (xs : List A) (t i : ℕ)
    → ((k : ℕ) (x : A) → slice_get xs k ≡ Some x → IsStaleWriteAt (write x) t i → ⊥) → stale_at write xs t i ≡ None
unfolding stale_at
stale_at_none_matching write [] t i none = refl
stale_at_none_matching write (x ∷ xs) t i none = stale_at_cons_unless_matching write x xs t i (none 0 x refl)
    ∙ stale_at_none_matching write xs t i (λ k y at. none (suc k) y at)

stale_at_first_matching : {A : Type 0} (write : A → StaleWrite) (xs : List A) (k t i : ℕ) (x : A) → slice_get xs k ≡ Some x → IsStaleWriteAt (write x) t i
    → ((j : ℕ) (y : A) → j < k → slice_get xs j ≡ Some y → IsStaleWriteAt (write y) t i → ⊥) → stale_at write xs t i ≡ Some x
stale_at_first_matching write [] k t i x at is first = absurd (none-some x at)
stale_at_first_matching {A} write (y ∷ xs) zero t i x at is first =
    let same : x ≡ y = same_Some x y (sym at) in
    subst (λ (z : A). stale_at write (y ∷ xs) t i ≡ Some z) (sym same)
    (stale_at_cons_if_matching write y xs t i (subst (λ (z : A). IsStaleWriteAt (write z) t i) same is))
stale_at_first_matching write (y ∷ xs) (suc k) t i x at is first = stale_at_cons_unless_matching write y xs t i (first 0 y (omega arith) refl)
    ∙ stale_at_first_matching write xs k t i x at is (λ j z less there. first (suc j) z (omega (arith, less)) there)

matching_not_before : (x : StaleWrite) (t i : ℕ) → IsStaleWriteAt x t i → IsBefore x.thread x.event t i → ⊥
matching_not_before x t i at before = before_irreflexive t i (subst (λ n. IsBefore n i t i) at.0 (subst (λ n. IsBefore x.thread n t i) at.1 before))

-- n of these come before event i of thread t
pub record IsCountBefore (xs : List StaleWrite) (t i n : ℕ) : Type 0 where
  pub before : (k : ℕ) (x : StaleWrite) → k < n → slice_get xs k ≡ Some x → IsBefore x.thread x.event t i
  pub rest : (k : ℕ) (x : StaleWrite) → n ≤ k → slice_get xs k ≡ Some x → IsBefore x.thread x.event t i → ⊥

-- with each of these goes the stale write of the same number
abbrev pub GoWith : {A : Type 0} → (A → StaleWrite) → List A → List StaleWrite → Type 0
GoWith {A} write xs stale = (k : ℕ) (x : A) → slice_get xs k ≡ Some x → slice_get stale k ≡ Some (write x)

-- it is the next one of them, if that is of the event
pub stale_at_of_all_is_that_of_next : {A : Type 0} (write : A → StaleWrite) (xs : List A) (stale : List StaleWrite) (t i n : ℕ) (x : A) → GoWith write xs stale
    → IsRising stale → IsCountBefore stale t i n → slice_get xs n ≡ Some x → stale_at write xs t i ≡ stale_at write (x ∷ []) t i
stale_at_of_all_is_that_of_next {A} write xs stale t i n x go rising counts at = elim (stale_at_event_test (write x) t i) [
  | inl here ↦ stale_at_first_matching write xs n t i x at here.1
      (λ j y less there is. matching_not_before (write y) t i is (counts.before j (write y) less (go j y there)))
      ∙ sym (stale_at_cons_if_matching write x [] t i here.1)
  | inr other ↦ stale_at_none_matching write xs t i (no_later other.1) ∙ sym (stale_at_none_matching write (x ∷ []) t i (only other.1))
]
  where
    no_later : (IsStaleWriteAt (write x) t i → ⊥) → (k : ℕ) (y : A) → slice_get xs k ≡ Some y → IsStaleWriteAt (write y) t i → ⊥
    no_later not k y there is = elim (cases_lt k n) [
      | inl less ↦ matching_not_before (write y) t i is (counts.before k (write y) less (go k y there))
      | inr past ↦ elim (cases_eq k n) [
        | inl same ↦ not (subst (λ (z : A). IsStaleWriteAt (write z) t i) (same_Some y x (sym there ∙ ap (λ z. slice_get xs z) same ∙ at)) is)
        | inr ne ↦ counts.rest n (write x) (omega arith) (go n x at)
            (subst (λ m. IsBefore (write x).thread (write x).event m i) is.0
            (subst (λ m. IsBefore (write x).thread (write x).event (write y).thread m) is.1
            (rising n k (write x) (write y) (omega (arith, past, ne)) (go n x at) (go k y there))))
      ]
    ]

    only : (IsStaleWriteAt (write x) t i → ⊥) → (k : ℕ) (y : A) → slice_get (x ∷ []) k ≡ Some y → IsStaleWriteAt (write y) t i → ⊥
    only not zero y there is = not (subst (λ (z : A). IsStaleWriteAt (write z) t i) (sym (same_Some x y there)) is)
    only not (suc k) y there is = none-some y there

-- there is none
pub stale_at_past_end : {A : Type 0} (write : A → StaleWrite) (xs : List A) (stale : List StaleWrite) (t i n : ℕ) → GoWith write xs stale
    → IsCountBefore stale t i n → length xs ≤ n → stale_at write xs t i ≡ None
stale_at_past_end write xs stale t i n go counts all = stale_at_none_matching write xs t i (λ k y there is.
    let within = slice_get_within xs k y there in
    matching_not_before (write y) t i is (counts.before k (write y) (omega (arith, within, all)) (go k y there)))
