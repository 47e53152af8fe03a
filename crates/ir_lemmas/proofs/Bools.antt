-- Truth values.
use Rattle.std.proofs.Common.{Bool, false, refl, sym, true, true≢false, ◌&&◌, ◌||◌, ◌≡◌}
use Rattle.std.specs.Prelude.{IsTrue, not, ◌↔◌}

pub and_true_from_both : (a b : Bool) → a ≡ true → b ≡ true → (a && b) ≡ true
and_true_from_both true b e f = f
and_true_from_both false b e f = e

pub conjunction_with_false : (b : Bool) → (b && false) ≡ false
conjunction_with_false true = refl
conjunction_with_false false = refl

pub conjuncts_are_true : (b c : Bool) → (b && c) ≡ true → (b ≡ true) × (c ≡ true)
conjuncts_are_true true true h = (refl, refl)
conjuncts_are_true true false h = absurd (cc h)
conjuncts_are_true false c h = absurd (cc h)

pub false_if_not_is_true : (b : Bool) → not b ≡ true → b ≡ false
false_if_not_is_true true h = sym h
false_if_not_is_true false h = refl

-- what isn't so where its test says no
pub refuted_by_false_test : (b : Bool) (P : Type 0) → IsTrue b ↔ P → b ≡ false → P → ⊥
refuted_by_false_test b P test is h = let so : IsTrue b = test.1 h in cc (is, so)

pub left_of_true_and : (a b : Bool) → (a && b) ≡ true → a ≡ true
left_of_true_and true b e = refl
left_of_true_and false b e = e

pub or_true_from_left : (a b : Bool) → a ≡ true → (a || b) ≡ true
or_true_from_left true b e = refl
or_true_from_left false b e = absurd (true≢false (sym e))

pub or_true_from_right : (a b : Bool) → b ≡ true → (a || b) ≡ true
or_true_from_right true b e = refl
or_true_from_right false b e = e

pub right_of_true_and : (a b : Bool) → (a && b) ≡ true → b ≡ true
right_of_true_and true b e = e
right_of_true_and false b e = absurd (true≢false (sym e))

pub true_is_not_false : (b : Bool) → b ≡ true → b ≡ false → ⊥
true_is_not_false b is isnt = cc (is, isnt)
