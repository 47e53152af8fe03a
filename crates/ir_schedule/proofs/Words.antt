-- Priorities and places as they are drawn.
use Rattle.std.proofs.Common.{◌≡◌, ◌<◌, ◌≤◌, ℕ, zero, suc, ◌+◌, ◌-◌, List, [], ◌∷◌, ◌++◌, length, refl, sym, ap, ◌∙◌, arith, append-nil, append_assoc}
use Rattle.rand_pcg.specs.Lcg.{Lcg}
use Rattle.rand_pcg.specs.Pcg.{pcg32}
use Rattle.ir_schedule.specs.Draws.{drawn}
use Rattle.ir_schedule.specs.Ranking.{first_priority, first_priorities, after_words, place_from, choices_in, first_places}
use Rattle.ir_schedule.specs.declared.place.Place.{Place}

difference_is_suc : (n k : ℕ) → k < n → n - k ≡ suc (n - (k + 1))
difference_is_suc n k l = omega (arith, l)

difference_is_zero : (n k : ℕ) → n ≤ k → n - k ≡ zero
difference_is_zero n k l = omega (arith, l)

-- a word more
pub first_priorities_step : (n k word : ℕ) (g h : Lcg) (xs ys : List ℕ) → k < n → (word, h) ≡ pcg32 g → ys ≡ xs ++ (first_priority + word) ∷ []
    → ys ++ first_priorities (n - (k + 1)) h ≡ xs ++ first_priorities (n - k) g
first_priorities_step n k word g h xs ys l e new = ap (λ z. z ++ first_priorities (n - (k + 1)) h) new
    ∙ append_assoc xs ((first_priority + word) ∷ []) (first_priorities (n - (k + 1)) h)
    ∙ ap (λ z. xs ++ (first_priority + z.0) ∷ first_priorities (n - (k + 1)) z.1) e
    ∙ ap (λ m. xs ++ first_priorities m g) (sym (difference_is_suc n k l))

pub after_words_next : (n k word : ℕ) (g h : Lcg) → k < n → (word, h) ≡ pcg32 g → after_words (n - (k + 1)) h ≡ after_words (n - k) g
after_words_next n k word g h l e = ap (λ z. after_words (n - (k + 1)) z.1) e ∙ ap (λ m. after_words m g) (sym (difference_is_suc n k l))

pub drawn_priorities_whole : (n k : ℕ) (g : Lcg) (xs ys : List ℕ) → n ≤ k → xs ++ first_priorities (n - k) g ≡ ys → xs ≡ ys
drawn_priorities_whole n k g xs ys l e = sym (append-nil xs) ∙ ap (λ m. xs ++ first_priorities m g) (sym (difference_is_zero n k l)) ∙ e

pub generator_after_words : (n k : ℕ) (g h : Lcg) → n ≤ k → after_words (n - k) g ≡ h → g ≡ h
generator_after_words n k g h l e = ap (λ m. after_words m g) (sym (difference_is_zero n k l)) ∙ e

-- a place more
pub first_places_step : (counts : List ℕ) (n k total number : ℕ) (place : Place) (g h : Lcg) (xs ys : List Place) → k < n → total ≡ choices_in counts
    → (number, h) ≡ drawn total g → place ≡ place_from 0 counts number → ys ≡ xs ++ place ∷ []
    → ys ++ first_places counts (n - (k + 1)) h ≡ xs ++ first_places counts (n - k) g
first_places_step counts n k total number place g h xs ys l is e at new = ap (λ z. z ++ first_places counts (n - (k + 1)) h) new
    ∙ append_assoc xs (place ∷ []) (first_places counts (n - (k + 1)) h)
    ∙ ap (λ z. xs ++ z ∷ first_places counts (n - (k + 1)) h) at
    ∙ ap (λ z. xs ++ place_from 0 counts z.0 ∷ first_places counts (n - (k + 1)) z.1) (e ∙ ap (λ z. drawn z g) is)
    ∙ ap (λ m. xs ++ first_places counts m g) (sym (difference_is_suc n k l))

pub drawn_places_whole : (counts : List ℕ) (n k : ℕ) (g : Lcg) (xs ys : List Place) → n ≤ k → xs ++ first_places counts (n - k) g ≡ ys → xs ≡ ys
drawn_places_whole counts n k g xs ys l e = sym (append-nil xs) ∙ ap (λ m. xs ++ first_places counts m g) (sym (difference_is_zero n k l)) ∙ e

-- a priority for each thread
pub length-first_priorities : (n : ℕ) (g : Lcg) → length (first_priorities n g) ≡ n
length-first_priorities zero g = refl
length-first_priorities (suc n) g = ap suc (length-first_priorities n (pcg32 g).1)
