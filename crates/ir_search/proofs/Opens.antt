-- Nodes opened one after the other for a thread that goes on alone.
use Rattle.std.proofs.Common.{◌≡◌, ℕ, suc, zero, ◌<◌, ◌≤◌, Bool, true, false, true≢false, Some, None, List, [], ◌∷◌, ◌++◌, ◌⊎◌, inl, inr}
use Rattle.std.proofs.Common.{length, length-set, length-append, get_or, slice_set, refl, sym, ap, ◌∙◌, subst, arith}
use Rattle.std.specs.Prelude.{slice_get, replicate}
use Rattle.std.proofs.lemmas.Bool.{cases_eq}
use Rattle.std.proofs.lemmas.Option.{slice_get-get_or, get_or_from_slice_get}
use Rattle.ir_lemmas.proofs.CallerLemmas.{slice_get-push_cases, slice_get_append_kept}
use Rattle.ir_search.specs.Following.{Leading, BothWays, Keeps, IsNodeOpen, StaysOpen, GoesTo, IsWayFollowed}
use Rattle.ir_search.specs.TurnSoFar.{left_to_open}
use Rattle.ir_search.specs.Ways.{shut}

pub opening_fewer_shut : (xs : List Bool) (x : ℕ) (d : Bool) → x < length xs → get_or xs x d ≡ false → shut (slice_set xs x true) < shut xs
unfolding shut
opening_fewer_shut [] x d l e = absurd (omega (arith, l))
opening_fewer_shut (true ∷ xs) zero d l e = absurd (true≢false e)
opening_fewer_shut (false ∷ xs) zero d l e = omega arith
opening_fewer_shut (true ∷ xs) (suc x) d l e = opening_fewer_shut xs x d (omega (arith, l)) e
opening_fewer_shut (false ∷ xs) (suc x) d l e = let h = opening_fewer_shut xs x d (omega (arith, l)) e in omega (arith, h)

pub opened_place_is_open : (xs : List Bool) (x : ℕ) → x < length xs → IsNodeOpen (slice_set xs x true) x
opened_place_is_open [] x l = absurd (omega (arith, l))
opened_place_is_open (b ∷ xs) zero l = refl
opened_place_is_open (b ∷ xs) (suc x) l = opened_place_is_open xs x (omega (arith, l))

slice_get_set_other : (xs : List Bool) (x v : ℕ) → (v ≡ x → ⊥) → slice_get (slice_set xs x true) v ≡ slice_get xs v
slice_get_set_other [] x v ne = refl
slice_get_set_other (b ∷ xs) zero zero ne = absurd (ne refl)
slice_get_set_other (b ∷ xs) zero (suc v) ne = refl
slice_get_set_other (b ∷ xs) (suc x) zero ne = refl
slice_get_set_other (b ∷ xs) (suc x) (suc v) ne = slice_get_set_other xs x v (λ e. ne (ap suc e))

pub stays_open_opening : (xs : List Bool) (x : ℕ) → x < length xs → StaysOpen xs (slice_set xs x true)
stays_open_opening xs x l v o = elim (cases_eq v x) [
  | inl same ↦ subst (IsNodeOpen (slice_set xs x true)) (sym same) (opened_place_is_open xs x l)
  | inr ne ↦ slice_get_set_other xs x v ne ∙ o
]

-- what is opened now was so before, or is the one node
pub opening_cases : (xs : List Bool) (x v : ℕ) → IsNodeOpen (slice_set xs x true) v → IsNodeOpen xs v ⊎ (v ≡ x)
opening_cases xs x v o = elim (cases_eq v x) [
  | inl same ↦ inr same
  | inr ne ↦ inl (sym (slice_get_set_other xs x v ne) ∙ o)
]

-- what was opened before, and stays so after this node
pub stays_open_set_true : (old xs : List Bool) (x : ℕ) → x < length xs → StaysOpen old xs → StaysOpen old (slice_set xs x true)
stays_open_set_true old xs x l stays v o = stays_open_opening xs x l v (stays v o)

pub open_if_element_true : (xs : List Bool) (x : ℕ) (d : Bool) → x < length xs → get_or xs x d ≡ true → IsNodeOpen xs x
open_if_element_true xs x d l e = slice_get-get_or xs x d l ∙ ap Some e

replicated_false_shut : (n v : ℕ) → IsNodeOpen (replicate n false) v → ⊥
replicated_false_shut zero v o = cc o
replicated_false_shut (suc n) zero o = cc o
replicated_false_shut (suc n) (suc v) o = replicated_false_shut n v o

pub open_before_closed : (xs : List Bool) (n v : ℕ) → IsNodeOpen (xs ++ replicate n false) v → IsNodeOpen xs v
open_before_closed [] n v o = absurd (replicated_false_shut n v o)
open_before_closed (b ∷ xs) n zero o = o
open_before_closed (b ∷ xs) n (suc v) o = open_before_closed xs n v o

pub stays_open_closed : (xs : List Bool) (n : ℕ) → StaysOpen xs (xs ++ replicate n false)
stays_open_closed [] n v o = absurd (cc o)
stays_open_closed (b ∷ xs) n zero o = o
stays_open_closed (b ∷ xs) n (suc v) o = stays_open_closed xs n v o

pub followed_closed_added : (leading : BothWays) (xs : List Bool) (n : ℕ) → IsWayFollowed leading xs → IsWayFollowed leading (xs ++ replicate n false)
followed_closed_added leading xs n f v o refused = elim (f v (open_before_closed xs n v o) refused) [
  | inl none ↦ inl none
  | inr s ↦ inr (s.0, s.1, stays_open_closed xs n s.0 s.2)
]

pub open_by_get_or : (xs : List Bool) (v : ℕ) → get_or xs v false ≡ true → IsNodeOpen xs v
open_by_get_or [] v e = absurd (true≢false (sym e))
open_by_get_or (b ∷ xs) zero e = ap Some e
open_by_get_or (b ∷ xs) (suc v) e = open_by_get_or xs v e

pub get_or_by_open : (xs : List Bool) (v : ℕ) → IsNodeOpen xs v → get_or xs v false ≡ true
get_or_by_open xs v o = get_or_from_slice_get xs v true false o

-- what a thread goes on to stays so, where what was noted stays and nothing is shut
pub goes_to_open_kept : (leading more : Leading) (xs ys : List Bool) (v : ℕ) → Keeps leading more → StaysOpen xs ys
    → GoesTo leading (IsNodeOpen xs) v → GoesTo more (IsNodeOpen ys) v
goes_to_open_kept leading more xs ys v kept stays g = elim g [
  | inl none ↦ inl (kept v None none)
  | inr s ↦ inr (s.0, kept v (Some s.0) s.1, stays s.0 s.2)
]

-- what was followed stays so, where what was noted stays
pub followed_if_notes_kept : (leading more : BothWays) (xs : List Bool) → ((refused : Bool) → Keeps (leading refused) (more refused))
    → IsWayFollowed leading xs → IsWayFollowed more xs
followed_if_notes_kept leading more xs kept f v o refused =
    goes_to_open_kept (leading refused) (more refused) xs xs v (kept refused) (λ w is. is) (f v o refused)

-- a row of nodes, once node y is opened too: it stood there shut, or is one more
pub record Opening (xs ys : List Bool) (y : ℕ) : Type 0 where
  pub opens : IsNodeOpen ys y
  pub stays : StaysOpen xs ys
  pub only : (v : ℕ) → IsNodeOpen ys v → IsNodeOpen xs v ⊎ (v ≡ y)
  pub counts : ((length ys ≡ length xs) × (shut ys < shut xs)) ⊎ ((length ys ≡ suc (length xs)) × (shut ys ≡ shut xs))

pub set_shut_is_opening : (xs : List Bool) (y : ℕ) (d : Bool) → y < length xs → get_or xs y d ≡ false → Opening xs (slice_set xs y true) y
set_shut_is_opening xs y d l e = record {
  opens = opened_place_is_open xs y l;
  stays = stays_open_opening xs y l;
  only = opening_cases xs y;
  counts = inl (length-set xs y true, opening_fewer_shut xs y d l e);
}

shut_ignores_open : (xs : List Bool) → shut (xs ++ true ∷ []) ≡ shut xs
unfolding shut
shut_ignores_open [] = refl
shut_ignores_open (true ∷ xs) = shut_ignores_open xs
shut_ignores_open (false ∷ xs) = ap suc (shut_ignores_open xs)

added_open_is_open : (xs : List Bool) → IsNodeOpen (xs ++ true ∷ []) (length xs)
added_open_is_open [] = refl
added_open_is_open (x ∷ xs) = added_open_is_open xs

pub adding_is_opening : (xs : List Bool) → Opening xs (xs ++ true ∷ []) (length xs)
adding_is_opening xs = record {
  opens = added_open_is_open xs;
  stays = λ v is. slice_get_append_kept xs (true ∷ []) v true is;
  only = λ v is. elim (slice_get-push_cases xs true v true is) [ inl old ↦ inl old | inr p ↦ inr p.0 ];
  counts = let a = length-append xs (true ∷ []) in inr (omega (arith, a), shut_ignores_open xs);
}

pub opening_leaves_fewer : (most : ℕ) (xs ys : List Bool) (y : ℕ) → Opening xs ys y → length ys ≤ most
    → suc (left_to_open most ys) ≤ left_to_open most xs
opening_leaves_fewer most xs ys y o room = elim o.counts [
  | inl p ↦ let a = p.0 in let b = p.1 in omega (arith, a, b)
  | inr p ↦ let a = p.0 in let b = p.1 in omega (arith, a, b, room)
]
