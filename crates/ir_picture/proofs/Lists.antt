-- Lists by their places.
use Rattle.std.proofs.Common.{◌≡◌, ℕ, suc, zero, ◌<◌, ◌≤◌, ◌⊎◌, inl, inr, Bool, ◌==◌, ◌&&◌, if◌then◌else◌, Some, List, [], ◌∷◌, ◌++◌, map}
use Rattle.std.proofs.Common.{length, get_or, slice_set, refl, sym, ap, ◌∙◌, subst, arith, eq-eqb, ne_eqb}
use Rattle.std.specs.Prelude.{slice_get}
use Rattle.std.specs.Option.{option_map_or}
use Rattle.std.proofs.lemmas.Bool.{cases_eq, cases_lt}
use Rattle.std.proofs.lemmas.List.{get_or_past}
use Rattle.std.proofs.lemmas.Option.{same_Some, none-some}
use Rattle.ir_lemmas.proofs.CallerLemmas.{get_or_after_set, get_or_set_elsewhere}

-- what is at a place, by a read that has a default
pub slice_get_own_default : {X : Type 0} (xs : List X) (i : ℕ) (x : X) → i < length xs → get_or xs i x ≡ x → slice_get xs i ≡ Some x
slice_get_own_default [] i x l e = absurd (omega arith)
slice_get_own_default (y ∷ ys) zero x l e = ap Some e
slice_get_own_default (y ∷ ys) (suc i) x l e = slice_get_own_default ys i x (omega arith) e

pub slice_get_after_set : {X : Type 0} (xs : List X) (i : ℕ) (y : X) → i < length xs → slice_get (slice_set xs i y) i ≡ Some y
slice_get_after_set [] i y l = absurd (omega arith)
slice_get_after_set (x ∷ xs) zero y l = refl
slice_get_after_set (x ∷ xs) (suc i) y l = slice_get_after_set xs i y (omega arith)

pub slice_get_set_elsewhere : {X : Type 0} (xs : List X) (i k : ℕ) (y : X) → (i ≡ k → ⊥) → slice_get (slice_set xs i y) k ≡ slice_get xs k
slice_get_set_elsewhere [] i k y ne = refl
slice_get_set_elsewhere (x ∷ xs) zero zero y ne = absurd (ne refl)
slice_get_set_elsewhere (x ∷ xs) zero (suc k) y ne = refl
slice_get_set_elsewhere (x ∷ xs) (suc i) zero y ne = refl
slice_get_set_elsewhere (x ∷ xs) (suc i) (suc k) y ne = slice_get_set_elsewhere xs i k y (λ e. ne (ap suc e))

pub length_of_slice_set : {X : Type 0} (xs : List X) (i : ℕ) (y : X) → length (slice_set xs i y) ≡ length xs
length_of_slice_set [] i y = refl
length_of_slice_set (x ∷ xs) zero y = refl
length_of_slice_set (x ∷ xs) (suc i) y = ap suc (length_of_slice_set xs i y)

-- what is at a place of a list that was changed at one: the new, or what was there
pub slice_get_set_split : {X : Type 0} (xs : List X) (i k : ℕ) (y z : X) → i < length xs → slice_get (slice_set xs i y) k ≡ Some z
    → ((i ≡ k) × (y ≡ z)) ⊎ ((i ≡ k → ⊥) × (slice_get xs k ≡ Some z))
slice_get_set_split xs i k y z l e = elim (cases_eq i k) [
  | inl here ↦ inl (here, same_Some y z (sym (subst (λ m. slice_get (slice_set xs i y) m ≡ Some y) here (slice_get_after_set xs i y l)) ∙ e))
  | inr ne ↦ inr (ne, sym (slice_get_set_elsewhere xs i k y ne) ∙ e)
]

pub slice_get_of_map : {X Y : Type 0} (f : X → Y) (xs : List X) (k : ℕ) (x : X) → slice_get xs k ≡ Some x → slice_get (map f xs) k ≡ Some (f x)
slice_get_of_map f [] k x e = absurd (none-some x e)
slice_get_of_map f (y ∷ ys) zero x e = ap (λ z. Some (f z)) (same_Some y x e)
slice_get_of_map f (y ∷ ys) (suc k) x e = slice_get_of_map f ys k x e

pub slice_get_map_inverse : {X Y : Type 0} (f : X → Y) (xs : List X) (k : ℕ) (y : Y) → slice_get (map f xs) k ≡ Some y
    → (x : X) × (slice_get xs k ≡ Some x) × (f x ≡ y)
slice_get_map_inverse f [] k y e = absurd (none-some y e)
slice_get_map_inverse f (x ∷ xs) zero y e = (x, refl, same_Some (f x) y e)
slice_get_map_inverse f (x ∷ xs) (suc k) y e = slice_get_map_inverse f xs k y e

-- a change that f doesn't see
pub map_set_same_image : {X Y : Type 0} (f : X → Y) (xs : List X) (k : ℕ) (x y : X) → slice_get xs k ≡ Some x → f y ≡ f x → map f (slice_set xs k y) ≡ map f xs
map_set_same_image f [] k x y e same = refl
map_set_same_image f (z ∷ zs) zero x y e same = ap (λ w. w ∷ map f zs) (same ∙ ap f (sym (same_Some z x e)))
map_set_same_image f (z ∷ zs) (suc k) x y e same = ap (λ w. f z ∷ w) (map_set_same_image f zs k x y e same)

-- ---- a list that grows at its end

-- ---- tables by numbers, with a default

pub get_or_default_growth : {X : Type 0} (old new : List X) (n : ℕ) (none : X) → length old < n → length new ≡ n
    → ((k : ℕ) (d : X) → k < n → k < length old → get_or new k d ≡ get_or old k d)
    → ((k : ℕ) (d : X) → length old ≤ k → k < n → get_or new k d ≡ none)
    → (v : ℕ) → get_or new v none ≡ get_or old v none
get_or_default_growth old new n none longer all same more v = elim (cases_lt v (length old)) [
  | inl within ↦ same v none (omega (arith, within, longer)) within
  | inr past ↦ elim (cases_lt v n) [
    | inl inside ↦ more v none past inside ∙ sym (get_or_past old v none past)
    | inr beyond ↦ get_or_past new v none (omega (arith, all, beyond)) ∙ sym (get_or_past old v none past)
  ]
]

pub get_or_after_set_cases : {X : Type 0} (xs : List X) (i : ℕ) (p d : X) → i < length xs → (v : ℕ)
    → get_or (slice_set xs i p) v d ≡ (if v == i then p else get_or xs v d)
get_or_after_set_cases {X} xs i p d within v = elim (cases_eq v i) [
  | inl here ↦ subst (λ z. get_or (slice_set xs i p) z d ≡ (if z == i then p else get_or xs z d)) (sym here)
      (get_or_after_set xs i p d within ∙ ap {B = X} (λ (c : Bool). if c then p else get_or xs i d) (sym (eq-eqb i i refl)))
  | inr ne ↦ get_or_set_elsewhere xs i v p d (λ e. ne (sym e))
      ∙ ap {B = X} (λ (c : Bool). if c then p else get_or xs v d) (sym (ne_eqb v i ne))
]

-- what f says of element o, or a default
abbrev pub mapped_get_or : {X Y : Type 0} → (X → Y) → Y → List X → ℕ → Y
mapped_get_or f d xs o = option_map_or f (slice_get xs o) d

mapped_get_or_within : {X Y : Type 0} (f : X → Y) (d : Y) (xs : List X) (i : ℕ) (x : X) → i < length xs → get_or xs i x ≡ x → mapped_get_or f d xs i ≡ f x
mapped_get_or_within f d [] i x l e = absurd (omega arith)
mapped_get_or_within f d (y ∷ ys) zero x l e = ap f e
mapped_get_or_within f d (y ∷ ys) (suc i) x l e = mapped_get_or_within f d ys i x (omega arith) e

mapped_get_or_after_set : {X Y : Type 0} (f : X → Y) (d : Y) (xs : List X) (i : ℕ) (w : X) → i < length xs → mapped_get_or f d (slice_set xs i w) i ≡ f w
mapped_get_or_after_set f d [] i w l = absurd (omega arith)
mapped_get_or_after_set f d (y ∷ ys) zero w l = refl
mapped_get_or_after_set f d (y ∷ ys) (suc i) w l = mapped_get_or_after_set f d ys i w (omega arith)

mapped_get_or_set_other : {X Y : Type 0} (f : X → Y) (d : Y) (xs : List X) (i o : ℕ) (w : X) → (i ≡ o → ⊥) → mapped_get_or f d (slice_set xs i w) o ≡ mapped_get_or f d xs o
mapped_get_or_set_other f d [] i o w ne = refl
mapped_get_or_set_other f d (y ∷ ys) zero zero w ne = absurd (ne refl)
mapped_get_or_set_other f d (y ∷ ys) zero (suc o) w ne = refl
mapped_get_or_set_other f d (y ∷ ys) (suc i) zero w ne = refl
mapped_get_or_set_other f d (y ∷ ys) (suc i) (suc o) w ne = mapped_get_or_set_other f d ys i o w (λ e. ne (ap suc e))

-- one of the tables notes p at w, and the others are as they were
pub mapped_get_or_set_cases : {X Y : Type 0} (f : ℕ → X → Y) (d : Y) (xs : List X) (i w : ℕ) (x new : X) (p : Y) → i < length xs → get_or xs i x ≡ x
    → ((v : ℕ) → f v new ≡ (if v == w then p else f v x)) → (o v : ℕ)
    → mapped_get_or (f v) d (slice_set xs i new) o ≡ (if (o == i) && (v == w) then p else mapped_get_or (f v) d xs o)
mapped_get_or_set_cases {X} {Y} f d xs i w x new p within is noted o v = elim (cases_eq o i) [
  | inl here ↦ subst (λ z. mapped_get_or (f v) d (slice_set xs i new) z ≡ (if (z == i) && (v == w) then p else mapped_get_or (f v) d xs z)) (sym here)
      (mapped_get_or_after_set (f v) d xs i new within ∙ noted v
      ∙ ap {B = Y} (λ (z : Y). if v == w then p else z) (sym (mapped_get_or_within (f v) d xs i x within is))
      ∙ ap {B = Y} (λ (c : Bool). if c && (v == w) then p else mapped_get_or (f v) d xs i) (sym (eq-eqb i i refl)))
  | inr ne ↦ mapped_get_or_set_other (f v) d xs i o new (λ e. ne (sym e))
      ∙ ap {B = Y} (λ (c : Bool). if c && (v == w) then p else mapped_get_or (f v) d xs o) (sym (ne_eqb o i ne))
]
