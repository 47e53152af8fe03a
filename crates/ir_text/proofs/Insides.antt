-- Who is inside an object, and its words, by the last one.
use Rattle.std.proofs.Common.{◌≡◌, ◌≢◌, ◌+◌, ℕ, suc, List, [], ◌∷◌, ◌++◌, Option, Some, None, refl, ap, ◌∙◌, arith}
use Rattle.std.specs.Prelude.{codes}
use Rattle.ir_runs.specs.declared.access.Access.{Access}
use Rattle.ir_runs.specs.declared.access.Access.TheVariants.{Reading, Writing}
use Rattle.ir_text.specs.Texts.{hex_word, if_inside, inside_for, words_text}

if_inside_is_number : (a : Access) (n : ℕ) → if_inside a (Some a) n ≡ n ∷ []
if_inside_is_number Reading n = refl
if_inside_is_number Writing n = refl

if_inside_is_empty : (a : Access) (h : Option Access) (n : ℕ) → h ≢ Some a → if_inside a h n ≡ []
if_inside_is_empty Reading (Some Reading) n other = absurd (other refl)
if_inside_is_empty Reading (Some Writing) n other = refl
if_inside_is_empty Writing (Some Writing) n other = absurd (other refl)
if_inside_is_empty Writing (Some Reading) n other = refl
if_inside_is_empty Reading None n other = refl
if_inside_is_empty Writing None n other = refl

inside_for_step : (a : Access) (inside : ℕ → Option Access) (n : ℕ)
    → inside_for a inside (n + 1) ≡ inside_for a inside n ++ if_inside a (inside n) n
unfolding inside_for
inside_for_step a inside n =
    let e : n + 1 ≡ suc n = omega arith in
    ap (inside_for a inside) e

pub inside_for_inside : (a : Access) (inside : ℕ → Option Access) (n : ℕ) → inside n ≡ Some a
    → inside_for a inside (n + 1) ≡ inside_for a inside n ++ n ∷ []
inside_for_inside a inside n is = inside_for_step a inside n
    ∙ ap (λ (h : Option Access). inside_for a inside n ++ if_inside a h n) is
    ∙ ap (λ (xs : List ℕ). inside_for a inside n ++ xs) (if_inside_is_number a n)

pub inside_for_outside : (a : Access) (inside : ℕ → Option Access) (n : ℕ) → inside n ≢ Some a
    → inside_for a inside (n + 1) ≡ inside_for a inside n ++ []
inside_for_outside a inside n isnt = inside_for_step a inside n
    ∙ ap (λ (xs : List ℕ). inside_for a inside n ++ xs) (if_inside_is_empty a (inside n) n isnt)

pub inside_for_no_threads : (a : Access) (inside : ℕ → Option Access) → inside_for a inside 0 ≡ []
unfolding inside_for
inside_for_no_threads a inside = refl

pub words_text_step : (words : ℕ → ℕ) (n : ℕ) → words_text words (n + 1) ≡ words_text words n ++ codes " " ++ hex_word (words n)
words_text_step words n =
    let e : n + 1 ≡ suc n = omega arith in
    ap (words_text words) e
