-- The greatest object that is held.
use Rattle.std.proofs.Common.{◌≡◌, ◌≢◌, ℕ, zero, suc, ◌+◌, ◌<◌, ◌≤◌, List, [], ◌∷◌, length, get_or, set, take, Option, Some, None, Bool, refl, ap, ◌∙◌, subst, arith, true, false, inl, inr}
use Rattle.std.specs.Option.{is_some}
use Rattle.std.proofs.lemmas.Bool.{cases_lt, lt-ltb}
use Rattle.std.proofs.lemmas.Bool.Decides.{nat_tests}
use Rattle.std.proofs.lemmas.List.Sums.{sum_by-set, sum_by-cons}
use Rattle.ir_thread.specs.State.{held_at, higher_of, highest, is_above, one_if_held}
use Rattle.ir_thread.specs.Permitted.{held_count}
use Rattle.ir_runs.specs.declared.access.Access.{Access}

-- the greatest once one more place is looked at
abbrev pub higher_with_later_place : ℕ → Option Access → Option (ℕ × Access) → Option (ℕ × Access)
higher_with_later_place i (Some access) before = Some (i, access)
higher_with_later_place i None before = before

higher_of_later_place : (first : Option Access) (i : ℕ) (x : Option Access) (before : Option (ℕ × Access))
    → higher_of first (higher_with_later_place i x before) ≡ higher_with_later_place (suc i) x (higher_of first before)
higher_of_later_place first i (Some access) before = refl
higher_of_later_place first i None before = refl

higher_of_single_place : (x : Option Access) → higher_of x None ≡ higher_with_later_place 0 x None
higher_of_single_place (Some access) = refl
higher_of_single_place None = refl

-- one place more
pub highest_of_take_step : (xs : List (Option Access)) (i : ℕ) → i < length xs
    → highest (take (suc i) xs) ≡ higher_with_later_place i (get_or xs i None) (highest (take i xs))
highest_of_take_step [] i l = absurd (omega arith)
highest_of_take_step (x ∷ xs) zero l = higher_of_single_place x
highest_of_take_step (x ∷ xs) (suc i) l = ap (higher_of x) (highest_of_take_step xs i (omega arith))
    ∙ higher_of_later_place x i (get_or xs i None) (highest (take i xs))

-- the greatest is held, and none above it
pub record IsHighestHeld (xs : List (Option Access)) (top : ℕ × Access) : Type 0 where
  pub below : top.0 < length xs
  pub held : held_at xs top.0 ≡ Some top.1
  pub others : (i : ℕ) → top.0 < i → held_at xs i ≡ None

higher_of_none_parts : (x : Option Access) (h : Option (ℕ × Access)) → higher_of x h ≡ None → (x ≡ None) × (h ≡ None)
higher_of_none_parts None None e = (refl, refl)
higher_of_none_parts (Some a) None e = absurd (cc e)
higher_of_none_parts x (Some t) e = absurd (cc e)

-- where there is no greatest, none is held
pub no_highest_holds_none : (xs : List (Option Access)) → highest xs ≡ None → (i : ℕ) → held_at xs i ≡ None
no_highest_holds_none [] e i = refl
no_highest_holds_none (x ∷ xs) e zero = (higher_of_none_parts x (highest xs) e).0
no_highest_holds_none (x ∷ xs) e (suc i) = no_highest_holds_none xs (higher_of_none_parts x (highest xs) e).1 i

pub no_highest_count_zero : (xs : List (Option Access)) → highest xs ≡ None → held_count xs ≡ 0
no_highest_count_zero [] e = refl
no_highest_count_zero (x ∷ xs) e =
    let p = higher_of_none_parts x (highest xs) e in
    let first : one_if_held x ≡ 0 = ap one_if_held p.0 in
    let rest : held_count xs ≡ 0 = no_highest_count_zero xs p.1 in
    let sum : held_count (x ∷ xs) ≡ one_if_held x + held_count xs = sum_by-cons one_if_held x xs in
    omega (arith, first, rest, sum)

front_is_highest : (xs : List (Option Access)) (access : Access) → highest xs ≡ None → IsHighestHeld (Some access ∷ xs) (0, access)
front_is_highest xs access e = record { below = omega arith; held = refl; others = above }
  where
    above : (i : ℕ) → 0 < i → held_at (Some access ∷ xs) i ≡ None
    above zero l = absurd (omega arith)
    above (suc i) l = no_highest_holds_none xs e i

is_highest_cons : (x : Option Access) (xs : List (Option Access)) (top : ℕ × Access) → IsHighestHeld xs top → IsHighestHeld (x ∷ xs) (suc top.0, top.1)
is_highest_cons x xs top rest = record { below = omega (arith, rest.below); held = rest.held; others = above }
  where
    above : (i : ℕ) → suc top.0 < i → held_at (x ∷ xs) i ≡ None
    above zero l = absurd (omega arith)
    above (suc i) l = rest.others i (omega arith)

higher_of_is_highest : (xs : List (Option Access)) (top : ℕ × Access) → ((t : ℕ × Access) → highest xs ≡ Some t → IsHighestHeld xs t)
    → (x : Option Access) (h : Option (ℕ × Access)) → highest xs ≡ h → higher_of x h ≡ Some top → IsHighestHeld (x ∷ xs) top
higher_of_is_highest xs top rest None None g e = absurd (cc e)
higher_of_is_highest xs top rest (Some a) None g e = subst (IsHighestHeld (Some a ∷ xs)) (let p : ◌≡◌ {A = ℕ × Access} (0, a) top = cc e in p)
    (front_is_highest xs a g)
higher_of_is_highest xs top rest x (Some t) g e = subst (IsHighestHeld (x ∷ xs)) (let p : ◌≡◌ {A = ℕ × Access} (suc t.0, t.1) top = cc e in p)
    (is_highest_cons x xs t (rest t g))

pub highest_is_highest_held : (xs : List (Option Access)) (top : ℕ × Access) → highest xs ≡ Some top → IsHighestHeld xs top
highest_is_highest_held [] top e = absurd (cc e)
highest_is_highest_held (x ∷ xs) top e = higher_of_is_highest xs top (highest_is_highest_held xs) x (highest xs) refl e

-- what is above the greatest isn't held, nor is what is greater
pub none_held_above : (xs : List (Option Access)) (object : ℕ) → is_above (highest xs) object ≡ true → (i : ℕ) → object ≤ i → held_at xs i ≡ None
none_held_above xs object e i l = by (highest xs) refl e
  where
    by : (h : Option (ℕ × Access)) → highest xs ≡ h → is_above h object ≡ true → held_at xs i ≡ None
    by None g e = no_highest_holds_none xs g i
    by (Some top) g e = let less : top.0 < object = grind (arith, nat_tests) in (highest_is_highest_held xs top g).others i (omega arith)

-- where neither an object nor a greater one is held, it is above the greatest
pub object_above_highest : (xs : List (Option Access)) (object : ℕ) → ((i : ℕ) → object ≤ i → i < length xs → held_at xs i ≡ None)
    → is_above (highest xs) object ≡ true
object_above_highest xs object none = by (highest xs) refl
  where
    by : (h : Option (ℕ × Access)) → highest xs ≡ h → is_above h object ≡ true
    by None g = refl
    by (Some top) g = let is : IsHighestHeld xs top = highest_is_highest_held xs top g in
        elim (cases_lt top.0 object) [
          | inl below ↦ lt-ltb top.0 object below
          | inr above ↦ let there : held_at xs top.0 ≡ None = none top.0 above is.below in absurd (let held = is.held in cc (there, held))
        ]

-- where an object or a greater one is held, it isn't
pub object_not_above : (xs : List (Option Access)) (object i : ℕ) → object ≤ i → is_some (held_at xs i) ≡ true
    → is_above (highest xs) object ≡ false
object_not_above xs object i l held = by (is_above (highest xs) object) refl
  where
    by : (b : Bool) → is_above (highest xs) object ≡ b → is_above (highest xs) object ≡ false
    by false e = e
    by true e = let none : held_at xs i ≡ None = none_held_above xs object e i l in absurd (cc (none, held))

-- one more place that isn't held
pub none_held_between_step : (xs : List (Option Access)) (object next : ℕ) → is_some (get_or xs next None) ≡ false
    → ((i : ℕ) → object ≤ i → i < next → held_at xs i ≡ None) → (i : ℕ) → object ≤ i → i < next + 1 → held_at xs i ≡ None
none_held_between_step xs object next free none i from below = elim (cases_lt i next) [
  | inl before ↦ none i from before
  | inr after ↦ let same : next ≡ i = omega (arith, after, below) in subst (λ k. held_at xs k ≡ None) same (place_is_free (get_or xs next None) free)
]
  where
    place_is_free : (x : Option Access) → is_some x ≡ false → x ≡ None
    place_is_free None e = refl
    place_is_free (Some a) e = absurd (cc e)

one_if_held_is_one : (x : Option Access) → x ≢ None → one_if_held x ≡ 1
one_if_held_is_one None e = absurd (e refl)
one_if_held_is_one (Some access) e = refl

-- with one object left, one fewer is held
pub held_count_after_leave : (xs : List (Option Access)) (object : ℕ) → object < length xs → held_at xs object ≢ None
    → held_count xs ≡ suc (held_count (set xs object None))
held_count_after_leave xs object l e =
    let weight : one_if_held (get_or xs object None) ≡ 1 = one_if_held_is_one _ e in
    let sums = sum_by-set one_if_held xs object None None l in
    omega (arith, weight, sums)

one_if_held_at_most_one : (x : Option Access) → one_if_held x ≤ 1
one_if_held_at_most_one None = omega arith
one_if_held_at_most_one (Some access) = omega arith

pub held_count_le_length : (xs : List (Option Access)) → held_count xs ≤ length xs
held_count_le_length [] = omega arith
held_count_le_length (x ∷ xs) =
    let first = one_if_held_at_most_one x in
    let rest = held_count_le_length xs in
    let sum : held_count (x ∷ xs) ≡ one_if_held x + held_count xs = sum_by-cons one_if_held x xs in
    omega (arith, first, rest, sum)

-- the loop that looks at one place after another
pub highest-take_suc : (xs : List (Option Access)) (i : ℕ) (x : Option Access) → i < length xs → get_or xs i None ≡ x
    → highest (take (i + 1) xs) ≡ higher_with_later_place i x (highest (take i xs))
highest-take_suc xs i x l e =
    subst (λ n. highest (take n xs) ≡ higher_with_later_place i x (highest (take i xs))) (let p : suc i ≡ i + 1 = omega arith in p)
    (highest_of_take_step xs i l ∙ ap (λ y. higher_with_later_place i y (highest (take i xs))) e)
