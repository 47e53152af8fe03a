-- Tables by numbers.
use Rattle.std.proofs.Common.{◌≡◌, ℕ, suc, zero, ◌<◌, ◌≤◌, inl, inr, Bool, ◌==◌, ◌&&◌, if◌then◌else◌, Option, Some, None, List, []}
use Rattle.std.proofs.Common.{◌∷◌, length, get_or, replicate, slice_set, refl, sym, ap, ◌∙◌, subst, arith, eq-eqb, ne_eqb}
use Rattle.std.specs.Prelude.{slice_get}
use Rattle.std.specs.Option.{option_map_or}
use Rattle.std.proofs.lemmas.Bool.{cases_eq, cases_lt}
use Rattle.std.proofs.lemmas.List.{get_or_past}
use Rattle.ir_lemmas.proofs.CallerLemmas.{get_or_after_set, get_or_set_elsewhere}

-- a table that was made longer says the same
pub get_or_no_growth : {X : Type 0} (old new : List (Option X)) (n : ℕ) → length old < n → length new ≡ n
    → ((k : ℕ) (d : Option X) → k < n → k < length old → get_or new k d ≡ get_or old k d)
    → ((k : ℕ) (d : Option X) → length old ≤ k → k < n → get_or new k d ≡ None)
    → (v : ℕ) → get_or new v None ≡ get_or old v None
get_or_no_growth old new n longer all same more v = elim (cases_lt v (length old)) [
  | inl within ↦ same v None (omega (arith, within, longer)) within
  | inr past ↦ elim (cases_lt v n) [
    | inl inside ↦ more v None past inside ∙ sym (get_or_past old v None past)
    | inr beyond ↦ get_or_past new v None (omega (arith, all, beyond)) ∙ sym (get_or_past old v None past)
  ]
]

pub get_or-replicate_none : {X : Type 0} (n o : ℕ) → get_or (replicate {A = Option X} n None) o None ≡ None
get_or-replicate_none zero o = refl
get_or-replicate_none (suc n) zero = refl
get_or-replicate_none (suc n) (suc o) = get_or-replicate_none n o

-- ---- a list that grows at its end

-- ---- what is noted at a number

pub get_or_after_set_cases : {X : Type 0} (xs : List (Option X)) (i : ℕ) (p : X) → i < length xs → (v : ℕ)
    → get_or (slice_set xs i (Some p)) v None ≡ (if v == i then Some p else get_or xs v None)
get_or_after_set_cases {X} xs i p within v = elim (cases_eq v i) [
  | inl here ↦ subst (λ z. get_or (slice_set xs i (Some p)) z None ≡ (if z == i then Some p else get_or xs z None)) (sym here)
      (get_or_after_set xs i (Some p) None within
      ∙ ap {B = Option X} (λ (c : Bool). if c then Some p else get_or xs i None) (sym (eq-eqb i i refl)))
  | inr ne ↦ get_or_set_elsewhere xs i v (Some p) None (λ e. ne (sym e))
      ∙ ap {B = Option X} (λ (c : Bool). if c then Some p else get_or xs v None) (sym (ne_eqb v i ne))
]

-- what f says of element o, or none
abbrev pub mapped_get_or_none : {X Y : Type 0} → (X → Option Y) → List X → ℕ → Option Y
mapped_get_or_none f xs o = option_map_or f (slice_get xs o) None

mapped_get_within : {X Y : Type 0} (f : X → Option Y) (xs : List X) (i : ℕ) (x : X) → i < length xs → get_or xs i x ≡ x → mapped_get_or_none f xs i ≡ f x
mapped_get_within f [] i x l e = absurd (omega arith)
mapped_get_within f (y ∷ ys) zero x l e = ap f e
mapped_get_within f (y ∷ ys) (suc i) x l e = mapped_get_within f ys i x (omega arith) e

mapped_get_after_set : {X Y : Type 0} (f : X → Option Y) (xs : List X) (i : ℕ) (w : X) → i < length xs → mapped_get_or_none f (slice_set xs i w) i ≡ f w
mapped_get_after_set f [] i w l = absurd (omega arith)
mapped_get_after_set f (y ∷ ys) zero w l = refl
mapped_get_after_set f (y ∷ ys) (suc i) w l = mapped_get_after_set f ys i w (omega arith)

mapped_get_set_other : {X Y : Type 0} (f : X → Option Y) (xs : List X) (i o : ℕ) (w : X) → (i ≡ o → ⊥) → mapped_get_or_none f (slice_set xs i w) o ≡ mapped_get_or_none f xs o
mapped_get_set_other f [] i o w ne = refl
mapped_get_set_other f (y ∷ ys) zero zero w ne = absurd (ne refl)
mapped_get_set_other f (y ∷ ys) zero (suc o) w ne = refl
mapped_get_set_other f (y ∷ ys) (suc i) zero w ne = refl
mapped_get_set_other f (y ∷ ys) (suc i) (suc o) w ne = mapped_get_set_other f ys i o w (λ e. ne (ap suc e))

-- one of the tables notes p at w, and the others are as they were
pub mapped_get_set_cases : {X Y : Type 0} (f : ℕ → X → Option Y) (xs : List X) (i w : ℕ) (x new : X) (p : Y) → i < length xs → get_or xs i x ≡ x
    → ((v : ℕ) → f v new ≡ (if v == w then Some p else f v x)) → (o v : ℕ)
    → mapped_get_or_none (f v) (slice_set xs i new) o ≡ (if (o == i) && (v == w) then Some p else mapped_get_or_none (f v) xs o)
mapped_get_set_cases {X} {Y} f xs i w x new p within is noted o v = elim (cases_eq o i) [
  | inl here ↦ subst (λ z. mapped_get_or_none (f v) (slice_set xs i new) z ≡ (if (z == i) && (v == w) then Some p else mapped_get_or_none (f v) xs z)) (sym here)
      (mapped_get_after_set (f v) xs i new within ∙ noted v
      ∙ ap {B = Option Y} (λ (z : Option Y). if v == w then Some p else z) (sym (mapped_get_within (f v) xs i x within is))
      ∙ ap {B = Option Y} (λ (c : Bool). if c && (v == w) then Some p else mapped_get_or_none (f v) xs i) (sym (eq-eqb i i refl)))
  | inr ne ↦ mapped_get_set_other (f v) xs i o new (λ e. ne (sym e))
      ∙ ap {B = Option Y} (λ (c : Bool). if c && (v == w) then Some p else mapped_get_or_none (f v) xs o) (sym (ne_eqb o i ne))
]
