-- What a reader that is read up to a limit gave.
use Rattle.std.proofs.Common.{◌≡◌, ◌<◌, ℕ, zero, suc, List, [], ◌∷◌, ◌++◌, length, take, ap, refl, subst, ◌∙◌, arith, Option, Some, None, IfSome}
use Rattle.std.specs.Option.{option_map}
use Rattle.std.specs.declared.io.traits.Take.{Take}
use Rattle.std.specs.Io.Take.{take_limit, take_inner, take_remaining}

-- a prefix that is shorter than the limit is all
take_shorter_is_whole : (n : ℕ) (xs : List ℕ) → length (take n xs) < n → take n xs ≡ xs
take_shorter_is_whole zero [] h = refl
take_shorter_is_whole (suc n) [] h = refl
take_shorter_is_whole zero (x ∷ xs) h = absurd (omega (arith, h))
take_shorter_is_whole (suc n) (x ∷ xs) h = ap (λ (l : List ℕ). x ∷ l) (take_shorter_is_whole n xs (omega (arith, h)))

short_prefix_is_whole : (n : ℕ) (left : Option (List ℕ)) (bytes : List ℕ) → length bytes < n → IfSome (option_map (take n) left) (λ xs. bytes ≡ xs)
    → IfSome left (λ xs. bytes ≡ xs)
short_prefix_is_whole n None bytes h known = tt
short_prefix_is_whole n (Some xs) bytes h known = known ∙ take_shorter_is_whole n xs
    (let e : length bytes ≡ length (take n xs) = ap length known in omega (arith, h, e))

-- what is known of the bytes, where they did not reach the limit
pub short_read_is_all : {R : Type 0} (remaining : R → Option (List ℕ)) (n : ℕ) (t : Take R) (reader : R) (old bytes : List ℕ) → take_limit t ≡ n
    → take_inner t ≡ reader → old ≡ [] → length bytes < n →
    IfSome (take_remaining remaining t) (λ xs. bytes ≡ old ++ xs) → IfSome (remaining reader) (λ xs. bytes ≡ xs)
short_read_is_all remaining n t reader old bytes limit inner nothing h known =
    short_prefix_is_whole n (remaining reader) bytes h (subst (λ (m : ℕ). IfSome (option_map (take m) (remaining reader)) (λ xs. bytes ≡ xs)) limit
    (subst (λ r. IfSome (option_map (take (take_limit t)) (remaining r)) (λ xs. bytes ≡ xs)) inner
    (subst (λ (l : List ℕ). IfSome (take_remaining remaining t) (λ xs. bytes ≡ l ++ xs)) nothing known)))
