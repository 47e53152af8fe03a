-- Marks at their places.
use Rattle.std.proofs.Common.{◌≡◌, ℕ, zero, suc, ◌+◌, ◌*◌, ◌/◌, ◌%◌, ◌<◌, ◌≤◌, Bool, true, false, true≢false, cond, ◌&&◌, List, [], ◌∷◌, length, slice_set, ◌⊎◌, inl, inr, refl, sym, ap, ◌∙◌, arith}
use Rattle.std.specs.Prelude.{◌==◌, nat_le}
use Rattle.std.specs.List.{slice_index_or}
use Rattle.std.proofs.lemmas.Bool.{cases_eq}
use Rattle.std.proofs.lemmas.Bool.Decides.{nat_tests}
use Rattle.ir_lemmas.proofs.CallerLemmas.{get_or_set_elsewhere}
use Rattle.ir_image.specs.Guest.{code_start}
use Rattle.ir_liveness.specs.Flow.{call_limit}
use Rattle.ir_liveness.specs.Live.{Point}
use Rattle.ir_liveness.specs.Table.{mark_place, is_marked}
use Rattle.ir_liveness.specs.Marks.{places_of_word, point_at, unmarked}

true_test_cases : (aligned inside mark : Bool) → cond aligned (inside && mark) true ≡ true
    → (aligned ≡ false) ⊎ ((aligned ≡ true) × (inside ≡ true) × (mark ≡ true))
true_test_cases false inside mark is = inl refl
true_test_cases true true mark is = inr (refl, refl, is)
true_test_cases true false mark is = absurd (true≢false (sym is))

test_aligned_inside : (aligned inside mark : Bool) → aligned ≡ true → inside ≡ true → cond aligned (inside && mark) true ≡ mark
test_aligned_inside true true mark a i = refl
test_aligned_inside true false mark a i = absurd (true≢false (sym i))
test_aligned_inside false inside mark a i = absurd (true≢false (sym a))

test_if_not_aligned : (aligned inside mark : Bool) → aligned ≡ false → cond aligned (inside && mark) true ≡ true
test_if_not_aligned true inside mark a = absurd (true≢false a)
test_if_not_aligned false inside mark a = refl

pub marked_point_cases : (marks : List Bool) (p : Point) (register : ℕ) → is_marked marks p register ≡ true
    → (p.pc % 4 ≡ 0 → ⊥) ⊎ ((p.pc % 4 ≡ 0) × (code_start ≤ p.pc) × (slice_index_or marks (mark_place p register) false ≡ true))
marked_point_cases marks p register is =
    elim (true_test_cases (p.pc % 4 == 0) (nat_le code_start p.pc) (slice_index_or marks (mark_place p register) false) is) [
      | inl odd ↦ inl (λ aligned. grind (arith, nat_tests))
      | inr so ↦ let a = so.0 in let b = so.1 in inr (grind (arith, nat_tests), grind (arith, nat_tests), so.2)
    ]

pub mark_of_point_place : (marks : List Bool) (p : Point) (register : ℕ) → p.pc % 4 ≡ 0 → code_start ≤ p.pc
    → is_marked marks p register ≡ slice_index_or marks (mark_place p register) false
mark_of_point_place marks p register aligned inside =
    test_aligned_inside (p.pc % 4 == 0) (nat_le code_start p.pc) (slice_index_or marks (mark_place p register) false)
    (grind (arith, nat_tests)) (grind (arith, nat_tests))

pub point_between_is_marked : (marks : List Bool) (p : Point) (register : ℕ) → (p.pc % 4 ≡ 0 → ⊥) → is_marked marks p register ≡ true
point_between_is_marked marks p register odd =
    test_if_not_aligned (p.pc % 4 == 0) (nat_le code_start p.pc) (slice_index_or marks (mark_place p register) false) (grind (arith, nat_tests))

pub place_of_point_at_word : (word place : ℕ) → mark_place (point_at word place) (place % 32) ≡ word * places_of_word + place
place_of_point_at_word word place = omega arith

pub mark_at_place_of_word : (marks : List Bool) (word place : ℕ)
    → is_marked marks (point_at word place) (place % 32) ≡ slice_index_or marks (word * places_of_word + place) false
mark_at_place_of_word marks word place =
    mark_of_point_place marks (point_at word place) (place % 32) (omega arith) (omega arith)
    ∙ ap (λ (k : ℕ). slice_index_or marks k false) (place_of_point_at_word word place)

-- a point of a word, with its register, by the place
pub record IsAt (p : Point) (register word place : ℕ) : Type 0 where
  pub same_point : p ≡ point_at word place
  pub same_register : register ≡ place % 32

pub point_is_at_place : (p : Point) (register word place : ℕ) → p.pc ≡ code_start + 4 * word → p.number ≡ place / 32 → register ≡ place % 32
    → IsAt p register word place
point_is_at_place p register word place pc number same = record {
  same_point = λ i. record { pc = pc i; number = number i };
  same_register = same;
}

pub point_is_at_its_place : (p : Point) (register word place : ℕ) → p.pc % 4 ≡ 0 → code_start ≤ p.pc → p.number < call_limit → register < 32 → place < places_of_word
    → mark_place p register ≡ word * places_of_word + place → IsAt p register word place
point_is_at_its_place p register word place aligned inside low few less same =
    let pc = p.pc in
    let number = p.number in
    point_is_at_place p register word place (omega arith) (omega arith) (omega arith)

pub marked_setting_cases : (marks : List Bool) (word place : ℕ) (p : Point) (register : ℕ) → place < places_of_word → p.number < call_limit → register < 32
    → is_marked (slice_set marks (word * places_of_word + place) true) p register ≡ true → (is_marked marks p register ≡ true) ⊎ IsAt p register word place
marked_setting_cases marks word place p register less low few is =
    let new = slice_set marks (word * places_of_word + place) true in
    elim (marked_point_cases new p register is) [
      | inl odd ↦ inl (point_between_is_marked marks p register odd)
      | inr so ↦ elim (cases_eq (word * places_of_word + place) (mark_place p register)) [
        | inl same ↦ inr (point_is_at_its_place p register word place so.0 so.1 low few less (sym same))
        | inr other ↦ inl (mark_of_point_place marks p register so.0 so.1
            ∙ (sym (get_or_set_elsewhere marks (word * places_of_word + place) (mark_place p register) true false other) ∙ so.2))
      ]
    ]

pub setting_lowers_unmarked : (marks : List Bool) (k : ℕ) → k < length marks → slice_index_or marks k false ≡ false → unmarked (slice_set marks k true) < unmarked marks
unfolding unmarked
setting_lowers_unmarked [] k less unset = absurd (omega (arith, less))
setting_lowers_unmarked (true ∷ marks) zero less unset = absurd (true≢false unset)
setting_lowers_unmarked (false ∷ marks) zero less unset = omega arith
setting_lowers_unmarked (true ∷ marks) (suc k) less unset = setting_lowers_unmarked marks k (omega (arith, less)) unset
setting_lowers_unmarked (false ∷ marks) (suc k) less unset = let h = setting_lowers_unmarked marks k (omega (arith, less)) unset in omega (arith, h)
