-- The first of conditions that isn't met.
use Rattle.std.proofs.Common.{◌≡◌, ℕ, zero, suc, ◌+◌, ◌<◌, ◌≤◌, Bool, true, false, List, [], ◌∷◌, length, drop, get_or, sym, ap, ◌∙◌, arith}
use Rattle.std.specs.Prelude.{◌&&◌, IfSome, slice_get}
use Rattle.std.specs.List.{list_all}
use Rattle.ir_lemmas.proofs.CallerLemmas.{drop_past_length}
use Rattle.std.proofs.lemmas.List.{drop_more}

-- one more passes the test, so the others decide
pub tests_go_on : {A : Type 0} (f : A → Bool) (xs : List A) (place : ℕ) (d : A) → place < length xs → f (get_or xs place d) ≡ true
    → list_all f (drop place xs) ≡ list_all f xs → list_all f (drop (place + 1) xs) ≡ list_all f xs
tests_go_on f xs place d l passes h = sym (ap (list_all f) (drop_more xs place d l)
    ∙ ap (λ b. b && list_all f (drop (place + 1) xs)) passes) ∙ h

pub failing_test_found : {A : Type 0} (f : A → Bool) (xs : List A) (place : ℕ) (d : A) → place < length xs → f (get_or xs place d) ≡ false
    → IfSome (slice_get xs place) (λ x. f x ≡ false)
failing_test_found f [] place d l fails = absurd (omega (arith, l))
failing_test_found f (x ∷ xs) zero d l fails = fails
failing_test_found f (x ∷ xs) (suc place) d l fails = failing_test_found f xs place d (omega (arith, l)) fails

pub all_tests_pass : {A : Type 0} (f : A → Bool) (xs : List A) (place : ℕ) → length xs ≤ place → list_all f (drop place xs) ≡ list_all f xs
    → list_all f xs ≡ true
all_tests_pass f xs place past h = sym h ∙ ap (list_all f) (drop_past_length xs place past)
