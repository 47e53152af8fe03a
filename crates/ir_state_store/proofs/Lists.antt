-- Lists that are compared, and numbers in a table.
use Rattle.std.proofs.Common.{◌≡◌, ◌⊎◌, inl, inr, ◌<◌, ◌≤◌, ◌+◌, ℕ, zero, suc, List, [], ◌∷◌, ◌++◌, length, take, get_or, map, set, refl, sym, ap, ◌∙◌, subst, arith}
use Rattle.std.specs.Prelude.{Result, Ok, Err, OnErr, drop}
use Rattle.std.specs.List.{AllByRecursion}
use Rattle.std.proofs.lemmas.List.{take_more, take_all, map_push, ext_get_or}
use Rattle.std.proofs.lemmas.Option.{slice_get-get_or, get_or_from_slice_get, slice_get_within}
use Rattle.ir_lemmas.proofs.CallerLemmas.{all_of_push}
use Rattle.ir_state_store.specs.Table.{KeepsNumbers}

-- what is equal so far, and one element more
pub equal_prefix_step : {X : Type 0} (xs ys : List X) (n : ℕ) (d : X) → n < length xs → n < length ys → take n xs ≡ take n ys
    → get_or xs n d ≡ get_or ys n d → take (n + 1) xs ≡ take (n + 1) ys
equal_prefix_step xs ys n d here there before is =
    take_more xs n d here ∙ (λ i. before i ++ is i ∷ []) ∙ sym (take_more ys n d there)

pub equal_prefixes_whole : {X : Type 0} (xs ys : List X) (n : ℕ) → length xs ≤ n → length ys ≤ n → take n xs ≡ take n ys → xs ≡ ys
equal_prefixes_whole xs ys n few few' e = sym (take_all n xs few) ∙ e ∙ take_all n ys few'

pub all_by_recursion_weaker : {X : Type 0} (P Q : X → Type 0) (xs : List X) → ((x : X) → P x → Q x) → AllByRecursion P xs → AllByRecursion Q xs
all_by_recursion_weaker P Q [] each all = tt
all_by_recursion_weaker P Q (x ∷ xs) each all = (each x all.0, all_by_recursion_weaker P Q xs each all.1)

pub all_same_or_pushed : {X : Type 0} (P : X → Type 0) (xs new : List X) (y : X) → AllByRecursion P xs → P y → (new ≡ xs) ⊎ (new ≡ xs ++ y ∷ [])
    → AllByRecursion P new
all_same_or_pushed P xs new y all is either = elim either [
  | inl e ↦ subst (AllByRecursion P) (sym e) all
  | inr e ↦ subst (AllByRecursion P) (sym e) (all_of_push P xs y all is)
]

-- one element more
pub push_keeps_old_elements : {X : Type 0} (old : List X) (s : X) → KeepsNumbers old (old ++ s ∷ [])
push_keeps_old_elements [] s n x e = absurd (cc e)
push_keeps_old_elements (y ∷ old) s zero x e = e
push_keeps_old_elements (y ∷ old) s (suc n) x e = push_keeps_old_elements old s n x e

-- what was kept stays
pub kept_element_is_equal : {X : Type 0} (old new : List X) (d : X) → KeepsNumbers old new → (n : ℕ) → n < length old → get_or new n d ≡ get_or old n d
kept_element_is_equal old new d keeps n lt = get_or_from_slice_get new n (get_or old n d) d (keeps n (get_or old n d) (slice_get-get_or old n d lt))

pub below_length_kept : {X : Type 0} (old new : List X) (d : X) → KeepsNumbers old new → (n : ℕ) → n < length old → n < length new
below_length_kept old new d keeps n lt = slice_get_within new n (get_or old n d) (keeps n (get_or old n d) (slice_get-get_or old n d lt))

-- elements found one by one
pub map_push_is_take : {X Y : Type 0} (f : X → Y) (xs : List X) (x : X) (ys : List Y) (i : ℕ) (d : Y) → i < length ys → map f xs ≡ take i ys
    → f x ≡ get_or ys i d → map f (xs ++ x ∷ []) ≡ take (i + 1) ys
map_push_is_take f xs x ys i d lt before is =
    map_push f xs x ∙ (λ j. before j ++ is j ∷ []) ∙ sym (take_more ys i d lt)

-- elements made one by one
pub push_is_map_take : {X Y : Type 0} (f : X → Y) (xs : List X) (ys : List Y) (y : Y) (i : ℕ) (d : X) → i < length xs → ys ≡ map f (take i xs)
    → y ≡ f (get_or xs i d) → ys ++ y ∷ [] ≡ map f (take (i + 1) xs)
push_is_map_take f xs ys y i d lt before is =
    (λ j. before j ++ is j ∷ []) ∙ sym (map_push f (take i xs) (get_or xs i d)) ∙ ap (map f) (sym (take_more xs i d lt))

-- the same function of each element
pub map_equal_on_all : {X Y : Type 0} (f g : X → Y) (P : X → Type 0) (xs : List X) → ((x : X) → P x → f x ≡ g x) → AllByRecursion P xs
    → map f xs ≡ map g xs
map_equal_on_all f g P [] each all = refl
map_equal_on_all f g P (x ∷ xs) each all = λ i. each x all.0 i ∷ map_equal_on_all f g P xs each all.1 i

pub drop_begins_element : {X : Type 0} (xs : List X) (i : ℕ) (d : X) → i < length xs → drop i xs ≡ get_or xs i d ∷ drop (suc i) xs
drop_begins_element [] i d lt = absurd (omega (arith, lt))
drop_begins_element (x ∷ xs) zero d lt = refl
drop_begins_element (x ∷ xs) (suc i) d lt = drop_begins_element xs i d (omega (arith, lt))

-- what follows from what holds at an error, or on success
pub on_err_weaker : {A E P Q : Type 0} (result : Result A E) → (P → Q) → OnErr result P → OnErr result Q
on_err_weaker (Ok x) f h = tt
on_err_weaker (Err e) f h = f h

-- a list whose elements but that at place t are those of another is the other with this element
pub set_equal_others : {X : Type 0} (xs ys : List X) (d : X) (t : ℕ) (y : X) → length ys ≡ length xs → t < length ys → y ≡ get_or ys t y
    → ((v : ℕ) → (v ≡ t → ⊥) → get_or ys v d ≡ get_or xs v d) → set xs t y ≡ ys
set_equal_others [] ys d t y each less is same = absurd (omega (arith, each, less))
set_equal_others (x ∷ xs) [] d t y each less is same = absurd (omega (arith, less))
set_equal_others (x ∷ xs) (z ∷ ys) d zero y each less is same = λ i.
    is i ∷ ext_get_or d xs ys (omega (arith, each)) (λ k lt. sym (same (suc k) (λ e. absurd (omega (arith, e))))) i
set_equal_others (x ∷ xs) (z ∷ ys) d (suc t) y each less is same = λ i.
    sym (same zero (λ e. absurd (omega (arith, e)))) i
    ∷ set_equal_others xs ys d t y (omega (arith, each)) (omega (arith, less)) is (λ k ne. same (suc k) (λ e. ne (omega (arith, e)))) i
