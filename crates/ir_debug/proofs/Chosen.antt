-- Elements that a test finds, from a place on, and those that it leaves.
use Rattle.std.proofs.Common.{◌≡◌, ◌<◌, ◌≤◌, ◌+◌, ℕ, Bool, true, false, List, [], ◌∷◌, ◌++◌, length, drop, Some, None, sym, ap, ◌∙◌, arith, get_or}
use Rattle.std.specs.Prelude.{find, cond}
use Rattle.std.specs.List.{AllByRecursion, filter}
use Rattle.std.proofs.lemmas.List.{at_drop_more, at_drop_all}
use Rattle.std.proofs.lemmas.List.Sums.{length-filter, count_by-le-length}

-- ---- the first that passes

find_drop_cond : {A : Type 0} (p : A → Bool) (xs : List A) (i : ℕ) (x : A) → i < length xs → x ≡ get_or xs i x
    → find p (drop i xs) ≡ cond (p x) (Some x) (find p (drop (i + 1) xs))
find_drop_cond p xs i x l at = at_drop_more (λ ys. find p ys) xs i x l ∙ ap (λ z. find p (z ∷ drop (i + 1) xs)) (sym at)

pub find_is_element : {A : Type 0} (p : A → Bool) (xs : List A) (i : ℕ) (x : A) → find p (drop i xs) ≡ find p xs → i < length xs → x ≡ get_or xs i x
    → p x ≡ true → find p xs ≡ Some x
find_is_element p xs i x same l at is = sym same ∙ find_drop_cond p xs i x l at ∙ ap (λ b. cond b (Some x) (find p (drop (i + 1) xs))) is

pub find_drop_step : {A : Type 0} (p : A → Bool) (xs : List A) (i : ℕ) (x : A) → find p (drop i xs) ≡ find p xs → i < length xs → x ≡ get_or xs i x
    → p x ≡ false → find p (drop (i + 1) xs) ≡ find p xs
find_drop_step p xs i x same l at is = sym (ap (λ b. cond b (Some x) (find p (drop (i + 1) xs))) is) ∙ sym (find_drop_cond p xs i x l at) ∙ same

pub find_past_length : {A : Type 0} (p : A → Bool) (xs : List A) (i : ℕ) → find p (drop i xs) ≡ find p xs → length xs ≤ i → find p xs ≡ None
find_past_length p xs i same l = sym same ∙ at_drop_all (λ z. find p z) xs i l

-- ---- what holds of all

all_of_conditional_cons : {A : Type 0} (P : A → Type 0) (x : A) (xs : List A) (b : Bool) → P x → AllByRecursion P xs → AllByRecursion P (cond b (x ∷ xs) xs)
all_of_conditional_cons P x xs true one others = (one, others)
all_of_conditional_cons P x xs false one others = others

-- and without some
pub filter_keeps_all : {A : Type 0} (P : A → Type 0) (p : A → Bool) (xs : List A) → AllByRecursion P xs → AllByRecursion P (filter p xs)
filter_keeps_all P p [] all = tt
filter_keeps_all P p (x ∷ xs) all = all_of_conditional_cons P x (filter p xs) (p x) all.0 (filter_keeps_all P p xs all.1)

pub filter_is_not_longer : {A : Type 0} (p : A → Bool) (xs : List A) → length (filter p xs) ≤ length xs
filter_is_not_longer p xs = let same = length-filter p xs in let less = count_by-le-length p xs in omega (arith, same, less)
