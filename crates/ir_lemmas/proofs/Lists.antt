-- Lists, and what is at their places.
use Rattle.std.proofs.Common.{List, Some, [], ap, append-nil, append_assoc, arith, drop, get_or, inl, inr, length, length-append, map, refl}
use Rattle.std.proofs.Common.{replicate, set, slice_set, subst, suc, sym, take, zero, ℕ, ⊎_elim, ◌++◌, ◌+◌, ◌<◌, ◌∙◌, ◌∷◌, ◌≡◌, ◌≤◌, ◌⊎◌}
use Rattle.std.proofs.Common.{true, Bool, false, cond, Option}
use Rattle.std.proofs.lemmas.Bool.{cases_lt}
use Rattle.std.proofs.lemmas.List.{get_or-replicate, get_or_past, length-replicate}
use Rattle.std.proofs.lemmas.Option.{none-some, same_Some}
use Rattle.std.specs.List.{AllByRecursion, AllZip}
use Rattle.std.specs.Prelude.{slice_get, slice_index, ◌==◌, find}
use Rattle.std.proofs.lemmas.Grind.{common_steps}
use lib.ListN.{get_elem?}
use mathlib.Core.Option.{some, some-injective, some-ne-none}

pub added_element_is_last : {A : Type 0} (xs : List A) (y : A) → slice_get (xs ++ y ∷ []) (length xs) ≡ Some y
added_element_is_last [] y = refl
added_element_is_last (x ∷ xs) y = added_element_is_last xs y

pub all_of_push : {X : Type 0} (P : X → Type 0) (xs : List X) (x : X) → AllByRecursion P xs → P x → AllByRecursion P (xs ++ x ∷ [])
all_of_push P [] x h p = (p, tt)
all_of_push P (y ∷ ys) x h p = (h.0, all_of_push P ys x h.1 p)

pub all_of_set : {X : Type 0} (P : X → Type 0) (xs : List X) (i : ℕ) (x : X) → AllByRecursion P xs → P x → AllByRecursion P (set xs i x)
all_of_set P [] i x h p = tt
all_of_set P (y ∷ xs) zero x h p = (p, h.1)
all_of_set P (y ∷ xs) (suc i) x h p = (h.0, all_of_set P xs i x h.1 p)

-- what holds of each element holds of all
pub all_hold_if_each_holds : (P : ℕ → Type 0) (xs : List ℕ) → ((i : ℕ) → P (slice_index xs i)) → AllByRecursion P xs
all_hold_if_each_holds P [] each = tt
all_hold_if_each_holds P (x ∷ xs) each = (each 0, all_hold_if_each_holds P xs (λ i. each (suc i)))

pub all_of_append : {X : Type 0} (P : X → Type 0) (xs ys : List X) → AllByRecursion P xs → AllByRecursion P ys → AllByRecursion P (xs ++ ys)
all_of_append P [] ys h k = k
all_of_append P (x ∷ xs) ys h k = (h.0, all_of_append P xs ys h.1 k)

pub all_splits_off_last : {X : Type 0} (P : X → Type 0) (xs : List X) (x : X) → AllByRecursion P (xs ++ x ∷ []) → AllByRecursion P xs × P x
all_splits_off_last P [] x h = (tt, h.0)
all_splits_off_last P (y ∷ xs) x h = let r = all_splits_off_last P xs x h.1 in ((h.0, r.0), r.1)

-- a text that four others are added to
pub appends_nest_right : (a b c d e x y z all : List ℕ) → x ≡ a ++ b → y ≡ x ++ c → z ≡ y ++ d → all ≡ z ++ e → all ≡ a ++ (b ++ (c ++ (d ++ e)))
appends_nest_right a b c d e x y z all first second third last =
    last ∙ ap (λ t. t ++ e) (third ∙ ap (λ t. t ++ d) (second ∙ ap (λ t. t ++ c) first))
    ∙ append_assoc ((a ++ b) ++ c) d e ∙ append_assoc (a ++ b) c (d ++ e) ∙ append_assoc a b (c ++ (d ++ e))

pub drop_past_length : {X : Type 0} (xs : List X) (n : ℕ) → length xs ≤ n → drop n xs ≡ []
drop_past_length [] zero l = refl
drop_past_length [] (suc n) l = refl
drop_past_length (y ∷ ys) zero l = absurd (omega (arith, l))
drop_past_length (y ∷ ys) (suc n) l = drop_past_length ys n (omega (arith, l))

pub element_below_length : {A : Type 0} (xs : List A) (v : ℕ) → v < length xs → (x : A) × (slice_get xs v ≡ Some x)
element_below_length [] v l = absurd (omega (arith, l))
element_below_length (x ∷ xs) zero l = (x, refl)
element_below_length (x ∷ xs) (suc v) l = element_below_length xs v (omega (arith, l))

pub get_or_satisfies : {X : Type 0} (P : X → Type 0) (xs : List X) (i : ℕ) (d : X) → AllByRecursion P xs → i < length xs → P (get_or xs i d)
get_or_satisfies P [] i d all l = absurd (omega arith)
get_or_satisfies P (x ∷ xs) zero d all l = all.0
get_or_satisfies P (x ∷ xs) (suc i) d all l = get_or_satisfies P xs i d all.1 (omega arith)

pub get_or-zeros : (n i : ℕ) → get_or {A = ℕ} (replicate n 0) i 0 ≡ 0
get_or-zeros n i = elim (cases_lt i n) [
  | inl l ↦ get_or-replicate n i 0 0 l
  | inr g ↦ get_or_past (replicate n 0) i 0 (subst (λ k. k ≤ i) (sym (length-replicate n 0)) g)
]

pub slice_get_satisfies : {X : Type 0} (P : X → Type 0) (xs : List X) (i : ℕ) (e : X) → AllByRecursion P xs → slice_get xs i ≡ Some e → P e
slice_get_satisfies P [] i e all h = absurd (cc h)
slice_get_satisfies P (x ∷ xs) zero e all h = let same : x ≡ e = cc h in subst P same all.0
slice_get_satisfies P (x ∷ xs) (suc i) e all h = slice_get_satisfies P xs i e all.1 h

pub append_item_cases : {A : Type 0} (l : List A) (a b : A) (j : ℕ) → get_elem? (l ++ a ∷ []) j ≡ some b → (get_elem? l j ≡ some b)
    ⊎ ((j ≡ length l) × (a ≡ b))
append_item_cases [] a b zero e = inr (refl, some-injective a b e)
append_item_cases [] a b (suc j) e = absurd (some-ne-none b (sym e))
append_item_cases (x ∷ xs) a b zero e = inl e
append_item_cases (x ∷ xs) a b (suc j) e = ⊎_elim inl (λ (q : (j ≡ length xs) × (a ≡ b)). inr (ap suc q.0 ∙ omega arith, q.1)) (append_item_cases xs a b j e)

pub get_or_after_set : {X : Type 0} (xs : List X) (i : ℕ) (w d : X) → i < length xs → get_or (slice_set xs i w) i d ≡ w
get_or_after_set [] i w d l = absurd (omega arith)
get_or_after_set (y ∷ ys) zero w d l = refl
get_or_after_set (y ∷ ys) (suc i) w d l = get_or_after_set ys i w d (omega arith)

pub get_or_set_elsewhere : {X : Type 0} (xs : List X) (i o : ℕ) (w d : X) → (i ≡ o → ⊥) → get_or (slice_set xs i w) o d ≡ get_or xs o d
get_or_set_elsewhere [] i o w d ne = refl
get_or_set_elsewhere (y ∷ ys) zero zero w d ne = absurd (ne refl)
get_or_set_elsewhere (y ∷ ys) zero (suc o) w d ne = refl
get_or_set_elsewhere (y ∷ ys) (suc i) zero w d ne = refl
get_or_set_elsewhere (y ∷ ys) (suc i) (suc o) w d ne = get_or_set_elsewhere ys i o w d (λ e. ne (ap suc e))

pub get_or_of_found_word : (xs : List ℕ) (k y : ℕ) → get_elem? xs k ≡ some y → get_or xs k 0 ≡ y
get_or_of_found_word [] k y e = absurd (some-ne-none y (sym e))
get_or_of_found_word (x ∷ xs) zero y e = some-injective x y e
get_or_of_found_word (x ∷ xs) (suc k) y e = get_or_of_found_word xs k y e

pub length_of_append_item : {X : Type 0} (xs : List X) (x : X) → length (xs ++ x ∷ []) ≡ length xs + 1
length_of_append_item xs x = length-append xs (x ∷ [])

pub length_of_map : {X Y : Type 0} (f : X → Y) (xs : List X) → length (map f xs) ≡ length xs
length_of_map f [] = refl
length_of_map f (x ∷ xs) = ap suc (length_of_map f xs)

pub map_of_append_item : {A B : Type 0} (f : A → B) (xs : List A) (x : A) → map f (xs ++ x ∷ []) ≡ map f xs ++ f x ∷ []
map_of_append_item f [] x = refl
map_of_append_item f (y ∷ xs) x = ap (λ z. f y ∷ z) (map_of_append_item f xs x)

pub replicate_append_one : {A : Type 0} (n : ℕ) (x : A) → replicate n x ++ x ∷ [] ≡ replicate (suc n) x
replicate_append_one zero x = refl
replicate_append_one (suc n) x = ap (λ z. x ∷ z) (replicate_append_one n x)

pub same_head : (x y : ℕ) (xs ys : List ℕ) → x ∷ xs ≡ y ∷ ys → x ≡ y
same_head x y xs ys e = cc e

pub same_tail : (x y : ℕ) (xs ys : List ℕ) → x ∷ xs ≡ y ∷ ys → xs ≡ ys
same_tail x y xs ys e = cc e

pub slice_get-push_cases : {X : Type 0} (rows : List X) (x : X) (k : ℕ) (y : X) → slice_get (rows ++ x ∷ []) k ≡ Some y
    → (slice_get rows k ≡ Some y) ⊎ ((k ≡ length rows) × (x ≡ y))
slice_get-push_cases [] x zero y is = inr (refl, same_Some x y is)
slice_get-push_cases [] x (suc k) y is = absurd (none-some y is)
slice_get-push_cases (z ∷ rows) x zero y is = inl is
slice_get-push_cases (z ∷ rows) x (suc k) y is = elim (slice_get-push_cases rows x k y is) [
  | inl old ↦ inl old
  | inr new ↦ inr (ap suc new.0, new.1)
]

pub slice_get_push_earlier : {X : Type 0} (xs : List X) (y z : X) (k : ℕ) → slice_get xs k ≡ Some z → slice_get (xs ++ y ∷ []) k ≡ Some z
slice_get_push_earlier [] y z k e = absurd (none-some z e)
slice_get_push_earlier (x ∷ xs) y z zero e = e
slice_get_push_earlier (x ∷ xs) y z (suc k) e = slice_get_push_earlier xs y z k e

pub slice_get_append_kept : {A : Type 0} (xs ys : List A) (v : ℕ) (n : A) → slice_get xs v ≡ Some n → slice_get (xs ++ ys) v ≡ Some n
slice_get_append_kept [] ys v n e = absurd (cc e)
slice_get_append_kept (x ∷ xs) ys zero n e = e
slice_get_append_kept (x ∷ xs) ys (suc v) n e = slice_get_append_kept xs ys v n e

pub slice_get_append_cases : {X : Type 0} (xs ys : List X) (k : ℕ) (x : X) → slice_get (xs ++ ys) k ≡ Some x
    → (slice_get xs k ≡ Some x) ⊎ ((m : ℕ) × (k ≡ length xs + m) × (slice_get ys m ≡ Some x))
slice_get_append_cases [] ys k x e = inr (k, (let same : k ≡ 0 + k = omega arith in same), e)
slice_get_append_cases (z ∷ zs) ys zero x e = inl e
slice_get_append_cases (z ∷ zs) ys (suc k) x e = elim (slice_get_append_cases zs ys k x e) [
  | inl h ↦ inl h
  | inr h ↦ inr (h.0, (let same : suc k ≡ suc (length zs) + h.0 = omega (arith, h.1) in same), h.2)
]

pub take_length_of_append : {A : Type 0} (xs ys : List A) → take (length xs) (xs ++ ys) ≡ xs
take_length_of_append [] ys = refl
take_length_of_append (x ∷ xs) ys = ap (λ z. x ∷ z) (take_length_of_append xs ys)

pub prefix_is_whole : (xs ys zs : List ℕ) → xs ++ ys ≡ zs → ys ≡ [] → xs ≡ zs
prefix_is_whole xs ys zs e n = sym (append-nil xs) ∙ ap (λ z. xs ++ z) (sym n) ∙ e

-- of what is left to put, the first text was put
pub written_and_left_step : (so_far line left more text new : List ℕ) → so_far ++ left ≡ text → left ≡ line ++ more → new ≡ so_far ++ line → new ++ more ≡ text
written_and_left_step so_far line left more text new e first made =
    ap (λ (x : List ℕ). x ++ more) made ∙ append_assoc so_far line more ∙ ap (λ (x : List ℕ). so_far ++ x) (sym first) ∙ e

pub byte_equals_itself : (c : ℕ) → (c == c) ≡ true
byte_equals_itself c = grind (arith, common_steps)

pub suc_is_plus_one : (n : ℕ) → suc n ≡ n + 1
suc_is_plus_one n = omega arith

found_passes_step : {A : Type 0} (p : A → Bool) (y x : A) (rest : Option A) (b : Bool) → p y ≡ b → cond b (Some y) rest ≡ Some x
    → (rest ≡ Some x → p x ≡ true) → p x ≡ true
found_passes_step p y x rest true t h later = ap p (sym (same_Some y x h)) ∙ t
found_passes_step p y x rest false t h later = later h

-- what a search finds passes its test
pub found_passes_test : {A : Type 0} (p : A → Bool) (xs : List A) (x : A) → find p xs ≡ Some x → p x ≡ true
found_passes_test p [] x e = absurd cc
found_passes_test p (y ∷ ys) x e = found_passes_step p y x (find p ys) (p y) refl e (found_passes_test p ys x)

-- what is left in a list of which a part was changed in place
pub take_append_is_first : {A : Type 0} (new old : List A) (n : ℕ) → n ≡ length old → length new ≡ length old
    → take n (new ++ drop (length new) old) ≡ new
take_append_is_first new old n e f = ap (λ k. take k (new ++ drop (length new) old)) (e ∙ sym f) ∙ take_length_of_append new (drop (length new) old)

pub related_same_length : {A : Type 0} (P : A → A → Type 0) (xs ys : List A) → AllZip P xs ys → length ys ≡ length xs
related_same_length P [] [] p = refl
related_same_length P [] (y ∷ ys) p = absurd p
related_same_length P (x ∷ xs) [] p = absurd p
related_same_length P (x ∷ xs) (y ∷ ys) p = ap suc (related_same_length P xs ys p.1)
