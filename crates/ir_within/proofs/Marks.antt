-- How many are marked.
use Rattle.std.proofs.Common.{◌≡◌, ℕ, ◌+◌, ◌<◌, Bool, true, false, refl, take, List, [], ◌∷◌, ◌++◌, ◌∙◌, length, get_or, ap, arith}
use Rattle.std.proofs.lemmas.List.{take_more}
use Rattle.ir_within.specs.Within.{marked_count}

marked_count_append : (xs ys : List Bool) → marked_count (xs ++ ys) ≡ marked_count xs + marked_count ys
marked_count_append [] ys = omega arith
marked_count_append (true ∷ xs) ys = let e = marked_count_append xs ys in omega (arith, e)
marked_count_append (false ∷ xs) ys = marked_count_append xs ys

-- one mark more
pub marked_count_more : (xs : List Bool) (i : ℕ) (d : Bool) → i < length xs
    → marked_count (take (i + 1) xs) ≡ marked_count (take i xs) + marked_count (get_or xs i d ∷ [])
marked_count_more xs i d less = ap marked_count (take_more xs i d less) ∙ marked_count_append (take i xs) (get_or xs i d ∷ [])

pub marked_count_of_marked : (b : Bool) → b ≡ true → marked_count (b ∷ []) ≡ 1
marked_count_of_marked true e = refl
marked_count_of_marked false e = absurd (cc e)

pub marked_count_of_unmarked : (b : Bool) → b ≡ false → marked_count (b ∷ []) ≡ 0
marked_count_of_unmarked true e = absurd (cc e)
marked_count_of_unmarked false e = refl
