-- What is noted, once more is.
use Rattle.std.proofs.Common.{◌≡◌, ℕ, zero, suc, ◌+◌, ◌<◌, Option, Some, None, List, [], ◌∷◌, ◌++◌, ◌⊎◌, inl, inr, length, refl, sym, ap, ◌∙◌, subst, arith}
use Rattle.std.specs.Prelude.{replicate, slice_set}
use Rattle.std.specs.Global.{Vec}
use Rattle.std.specs.List.{slice_index_or}
use Rattle.std.proofs.lemmas.Bool.{cases_eq, cases_lt}
use Rattle.ir_search.specs.Following.{Keeps}
use Rattle.ir_graph.specs.Notes.{noted_in}

abbrev pub NotedLead : Type 0
NotedLead = Option (Option ℕ)

replicated_none_lead : (n v : ℕ) → slice_index_or {A = NotedLead} (replicate n None) v None ≡ None
replicated_none_lead zero v = refl
replicated_none_lead (suc n) zero = refl
replicated_none_lead (suc n) (suc v) = replicated_none_lead n v

pub leads_ignore_nones : (xs : List NotedLead) (n v : ℕ) → slice_index_or (xs ++ replicate n None) v None ≡ slice_index_or xs v None
leads_ignore_nones [] n v = replicated_none_lead n v
leads_ignore_nones (x ∷ xs) n zero = refl
leads_ignore_nones (x ∷ xs) n (suc v) = leads_ignore_nones xs n v

pub slice_index_set_own : (xs : List NotedLead) (i : ℕ) (x : NotedLead) → i < length xs → slice_index_or (slice_set xs i x) i None ≡ x
slice_index_set_own [] i x l = absurd (omega (arith, l))
slice_index_set_own (y ∷ xs) zero x l = refl
slice_index_set_own (y ∷ xs) (suc i) x l = slice_index_set_own xs i x (omega (arith, l))

pub slice_index_set_other : (xs : List NotedLead) (i v : ℕ) (x : NotedLead) → (v ≡ i → ⊥) → slice_index_or (slice_set xs i x) v None ≡ slice_index_or xs v None
slice_index_set_other [] i v x other = refl
slice_index_set_other (y ∷ xs) zero zero x other = absurd (other refl)
slice_index_set_other (y ∷ xs) zero (suc v) x other = refl
slice_index_set_other (y ∷ xs) (suc i) zero x other = refl
slice_index_set_other (y ∷ xs) (suc i) (suc v) x other = slice_index_set_other xs i v x (λ e. other (ap suc e))

pub noted_in_is_row_element : (rows : List (Vec NotedLead)) (t v : ℕ) (d : Vec NotedLead) → t < length rows
    → noted_in rows t v ≡ slice_index_or (slice_index_or rows t d).items v None
noted_in_is_row_element [] t v d l = absurd (omega (arith, l))
noted_in_is_row_element (row ∷ rows) zero v d l = refl
noted_in_is_row_element (row ∷ rows) (suc t) v d l = noted_in_is_row_element rows t v d (omega (arith, l))

pub noted_in_set_row_cases : (rows : List (Vec NotedLead)) (i : ℕ) (w : Vec NotedLead) → i < length rows → (t v : ℕ)
    → ((t ≡ i) × (noted_in (slice_set rows i w) t v ≡ slice_index_or w.items v None))
    ⊎ ((t ≡ i → ⊥) × (noted_in (slice_set rows i w) t v ≡ noted_in rows t v))
noted_in_set_row_cases [] i w l t v = absurd (omega (arith, l))
noted_in_set_row_cases (row ∷ rows) zero w l zero v = inl (refl, refl)
noted_in_set_row_cases (row ∷ rows) zero w l (suc t) v = inr ((λ e. let n : suc t ≡ zero = e in omega (arith, n)), refl)
noted_in_set_row_cases (row ∷ rows) (suc i) w l zero v = inr ((λ e. let n : zero ≡ suc i = e in omega (arith, n)), refl)
noted_in_set_row_cases (row ∷ rows) (suc i) w l (suc t) v = elim (noted_in_set_row_cases rows i w (omega (arith, l)) t v) [
  | inl p ↦ inl (ap suc p.0, p.1)
  | inr n ↦ inr ((λ e. n.0 (let q : suc t ≡ suc i = e in omega (arith, q))), n.1)
]

-- a row in which one node's place was written, at most
pub noted_in_set_cases : (rows : List (Vec NotedLead)) (i : ℕ) (w d : Vec NotedLead) (node : ℕ) (next : Option ℕ) → i < length rows
    → ((v : ℕ) → (v ≡ node → ⊥) → slice_index_or w.items v None ≡ slice_index_or (slice_index_or rows i d).items v None)
    → (slice_index_or w.items node None ≡ Some next) ⊎ (w.items ≡ (slice_index_or rows i d).items) → (t v : ℕ)
    → (noted_in (slice_set rows i w) t v ≡ noted_in rows t v) ⊎ ((t ≡ i) × (v ≡ node) × (noted_in (slice_set rows i w) t v ≡ Some next))
noted_in_set_cases rows i w d node next l others here t v = elim (noted_in_set_row_cases rows i w l t v) [
  | inl p ↦
      let was : noted_in rows t v ≡ slice_index_or (slice_index_or rows i d).items v None =
      ap (λ z. noted_in rows z v) p.0 ∙ noted_in_is_row_element rows i v d l in
      elim (cases_eq v node) [
        | inl same ↦ elim here [
          | inl is ↦ inr (p.0, same, p.1 ∙ ap (λ z. slice_index_or w.items z None) same ∙ is)
          | inr stays ↦ inl (p.1 ∙ ap (λ z. slice_index_or z v None) stays ∙ sym was)
        ]
        | inr other ↦ inl (p.1 ∙ others v other ∙ sym was)
      ]
  | inr n ↦ inl n.1
]

-- what was noted stays, if the place was free
pub notes_kept_if_free : (old new : ℕ → ℕ → NotedLead) (i node : ℕ) (next : Option ℕ) → old i node ≡ None
    → ((t v : ℕ) → (new t v ≡ old t v) ⊎ ((t ≡ i) × (v ≡ node) × (new t v ≡ Some next))) → (t : ℕ) → Keeps (old t) (new t)
notes_kept_if_free old new i node next fresh only t v to is = elim (only t v) [
  | inl same ↦ same ∙ is
  | inr p ↦ absurd (cc (sym (subst (λ z. old z node ≡ None) (sym p.0) fresh) ∙ ap (old t) (sym p.1) ∙ is))
]

-- an element within does not hang on what stands for one that isn't
pub slice_index_any_default : (xs : List NotedLead) (i : ℕ) (d d' : NotedLead) → i < length xs → slice_index_or xs i d ≡ slice_index_or xs i d'
slice_index_any_default [] i d d' l = absurd (omega (arith, l))
slice_index_any_default (x ∷ xs) zero d d' l = refl
slice_index_any_default (x ∷ xs) (suc i) d d' l = slice_index_any_default xs i d d' (omega (arith, l))

pub noted_in_set_row : (rows : List (Vec NotedLead)) (i : ℕ) (w : Vec NotedLead) (node : ℕ) (x : NotedLead) → i < length rows
    → slice_index_or w.items node None ≡ x → noted_in (slice_set rows i w) i node ≡ x
noted_in_set_row rows i w node x l is = elim (noted_in_set_row_cases rows i w l i node) [ inl p ↦ p.1 ∙ is | inr n ↦ absurd (n.0 refl) ]

noted_in_earlier_row : (rows : List (Vec NotedLead)) (w : Vec NotedLead) (t v : ℕ) → t < length rows → noted_in (rows ++ w ∷ []) t v ≡ noted_in rows t v
noted_in_earlier_row [] w t v l = absurd (omega (arith, l))
noted_in_earlier_row (row ∷ rows) w zero v l = refl
noted_in_earlier_row (row ∷ rows) w (suc t) v l = noted_in_earlier_row rows w t v (omega (arith, l))

noted_in_appended_row : (rows : List (Vec NotedLead)) (w : Vec NotedLead) (v : ℕ) → noted_in (rows ++ w ∷ []) (length rows) v ≡ slice_index_or w.items v None
noted_in_appended_row [] w v = refl
noted_in_appended_row (row ∷ rows) w v = noted_in_appended_row rows w v

-- a row more, which is empty
pub none_noted_empty_row : (rows : List (Vec NotedLead)) (w : Vec NotedLead) (n : ℕ) → length rows ≡ n → w.items ≡ []
    → ((t v : ℕ) → t < n → noted_in rows t v ≡ None) → (t v : ℕ) → t < n + 1 → noted_in (rows ++ w ∷ []) t v ≡ None
none_noted_empty_row rows w n many none free t v less = elim (cases_lt t n) [
  | inl l ↦ noted_in_earlier_row rows w t v (omega (arith, l, many)) ∙ free t v l
  | inr l ↦
      let here : length rows ≡ t = omega (arith, less, l, many) in
      subst (λ z. noted_in (rows ++ w ∷ []) z v ≡ None) here (noted_in_appended_row rows w v ∙ ap (λ z. slice_index_or z v None) none)
]
