-- Threads of rows.
use Rattle.std.proofs.Common.{◌≡◌, ◌⊎◌, ◌<◌, ◌++◌, [], ◌∷◌, ℕ, List, length, get_or, map, refl, sym, ap, ◌∙◌, subst, arith, Some, inl, inr}
use Rattle.std.specs.Prelude.{slice_get}
use Rattle.std.specs.Option.{option_map}
use Rattle.std.specs.List.{AllByRecursion}
use Rattle.std.proofs.lemmas.List.{map_push}
use Rattle.std.proofs.lemmas.Option.{slice_get-map, slice_get_read, slice_get_within, get_or_from_slice_get}
use Rattle.ir_lemmas.proofs.CallerLemmas.{all_of_push, slice_get-push_cases, added_element_is_last, length_of_map}
use Rattle.ir_thread_bytes.specs.Basis.{Basis}
use Rattle.ir_world.specs.Sources.{Source}
use Rattle.ir_thread.specs.State.{ThreadState}
use Rattle.ir_state_store.specs.Table.{KeepsNumbers, LooksLike, AreLooks}
use Rattle.ir_state_store.proofs.Lists.{push_keeps_old_elements}

pub looked_up_row_is_mapped : {R X : Type 0} (f : R → X) (rows : List R) (row : R) (n : ℕ) (x : X) → n < length (map f rows) → row ≡ get_or rows n row
    → x ≡ f row → slice_get (map f rows) n ≡ Some x
looked_up_row_is_mapped f rows row n x lt at is =
    slice_get-map f rows n
    ∙ ap (option_map f) (slice_get_read rows (length rows) n row refl (subst (λ k. n < k) (length_of_map f rows) lt) at)
    ∙ ap Some (sym is)

-- what is so of all rows, and of one more that is put or not
pub all_mapped_or_pushed : {R X : Type 0} (f : R → X) (P : X → Type 0) (rows new : List R) (row : R) → AllByRecursion P (map f rows) → P (f row)
    → (new ≡ rows) ⊎ (new ≡ rows ++ row ∷ []) → AllByRecursion P (map f new)
all_mapped_or_pushed f P rows new row all is either = elim either [
  | inl e ↦ subst (λ l. AllByRecursion P (map f l)) (sym e) all
  | inr e ↦ subst (λ l. AllByRecursion P (map f l)) (sym e)
      (subst (AllByRecursion P) (sym (map_push f rows row)) (all_of_push P (map f rows) (f row) all is))
]

looks_like_if_kept : (basis : Basis) (old new : List (ThreadState × Source)) (n : ℕ) (x : ThreadState × Source) → KeepsNumbers old new → LooksLike basis old n x
    → LooksLike basis new n x
looks_like_if_kept basis old new n x keeps like = record { kept = like.kept; at = keeps n like.kept like.at; bytes = like.bytes; source = like.source }

-- one thread more, with the number of one that it looks like, or its own
pub looks_push : (basis : Basis) (items : List (ThreadState × Source)) (looks : List ℕ) (x : ThreadState × Source) (k : ℕ)
    → length looks ≡ length items
    → AreLooks basis items looks → (k ≡ length items) ⊎ LooksLike basis items k x
    → AreLooks basis (items ++ x ∷ []) (looks ++ k ∷ [])
looks_push basis items looks x k size all is n j y stands at = elim (slice_get-push_cases looks k n j stands) [
  | inl old ↦ elim (slice_get-push_cases items x n y at) [
    | inl here ↦ looks_like_if_kept basis items (items ++ x ∷ []) j y (push_keeps_old_elements items x) (all n j y old here)
    | inr last ↦ absurd (old_less looks n j old (last.0 ∙ sym size))
  ]
  | inr last ↦ elim (slice_get-push_cases items x n y at) [
    | inl here ↦ absurd (old_less items n y here (last.0 ∙ size))
    | inr too ↦ subst (λ z. LooksLike basis (items ++ x ∷ []) z y) last.1
        (subst (λ z. LooksLike basis (items ++ x ∷ []) k z) too.1 (new_one is))
  ]
]
  where
    old_less : {X : Type 0} (xs : List X) (n : ℕ) (z : X) → slice_get xs n ≡ Some z → n ≡ length xs → ⊥
    old_less xs n z e same = let l = slice_get_within xs n z e in omega (arith, l, same)

    new_one : (k ≡ length items) ⊎ LooksLike basis items k x → LooksLike basis (items ++ x ∷ []) k x
    new_one (inl e) = record { kept = x; at = ap (slice_get (items ++ x ∷ [])) e ∙ added_element_is_last items x; bytes = refl; source = λ going. refl }
    new_one (inr like) = looks_like_if_kept basis items (items ++ x ∷ []) k x (push_keeps_old_elements items x) like

pub looks_same_or_pushed : {R : Type 0} (f : R → ThreadState × Source) (g : R → ℕ) (basis : Basis) (rows new : List R) (row : R)
    → AreLooks basis (map f rows) (map g rows)
    → (g row ≡ length (map f rows)) ⊎ LooksLike basis (map f rows) (g row) (f row)
    → (new ≡ rows) ⊎ (new ≡ rows ++ row ∷ []) → AreLooks basis (map f new) (map g new)
looks_same_or_pushed f g basis rows new row all is either = elim either [
  | inl e ↦ subst (λ l. AreLooks basis (map f l) (map g l)) (sym e) all
  | inr e ↦ subst (λ l. AreLooks basis (map f l) (map g l)) (sym e)
      (subst (λ l. AreLooks basis l (map g (rows ++ row ∷ []))) (sym (map_push f rows row))
      (subst (AreLooks basis (map f rows ++ f row ∷ [])) (sym (map_push g rows row))
      (looks_push basis (map f rows) (map g rows) (f row) (g row) (length_of_map g rows ∙ sym (length_of_map f rows)) all is)))
]

-- the element of the row that is read
pub looked_up_row_is_get_or : {R X : Type 0} (f : R → X) (rows : List R) (row : R) (n : ℕ) (d : X) → n < length (map f rows) → row ≡ get_or rows n row
    → f row ≡ get_or (map f rows) n d
looked_up_row_is_get_or f rows row n d lt at =
    sym (get_or_from_slice_get (map f rows) n (f row) d (looked_up_row_is_mapped f rows row n (f row) lt at refl))

-- the element of the row that is looked up
pub element_of_row_found : {R X : Type 0} (f : R → X) (rows : List R) (row : R) (n : ℕ) → slice_get rows n ≡ Some row → slice_get (map f rows) n ≡ Some (f row)
element_of_row_found f rows row n at = slice_get-map f rows n ∙ ap (option_map f) at
