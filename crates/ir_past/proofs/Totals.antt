-- Counting, with what is left to count.
use Rattle.std.proofs.Common.{◌≡◌, ◌+◌, ◌<◌, ◌≤◌, ℕ, List, length, drop, get_or, arith}
use Rattle.std.specs.List.{sum_by}
use Rattle.std.proofs.lemmas.List.{at_drop_all}
use Rattle.std.proofs.lemmas.List.Sums.{sum_by-drop_more}

-- what is left, by its first
pub sum_of_drop_next : {X : Type 0} (f : X → ℕ) (xs : List X) (i : ℕ) (x : X) → i < length xs
    → sum_by f (drop i xs) ≡ f (get_or xs i x) + sum_by f (drop (i + 1) xs)
sum_of_drop_next f xs i x within = sum_by-drop_more f xs i x within

-- nothing is left at the end
pub sum_of_drop_past_end : {X : Type 0} (f : X → ℕ) (xs : List X) (i : ℕ) → length xs ≤ i → sum_by f (drop i xs) ≡ 0
sum_of_drop_past_end f xs i all = at_drop_all (sum_by f) xs i all

-- one more is counted
pub count_and_rest_is_total : {X : Type 0} (f : X → ℕ) (xs : List X) (i : ℕ) (x : X) (n more total : ℕ) → i < length xs → more ≡ f (get_or xs i x)
    → n + sum_by f (drop i xs) ≡ total → n + more + sum_by f (drop (i + 1) xs) ≡ total
count_and_rest_is_total f xs i x n more total within is e = omega (arith, sum_of_drop_next f xs i x within, is, e)

-- all are counted
pub total_if_all_counted : {X : Type 0} (f : X → ℕ) (xs : List X) (i n total : ℕ) → length xs ≤ i → n + sum_by f (drop i xs) ≡ total → n ≡ total
total_if_all_counted f xs i n total all e = omega (arith, sum_of_drop_past_end f xs i all, e)
