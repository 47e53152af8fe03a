-- Lines of bytes that are joined.
use Rattle.std.proofs.Common.{◌≡◌, ℕ, suc, zero, Bool, true, false, cond, eqb, List, [], ◌∷◌, ◌++◌, take, refl, ap, ◌∙◌}
use Rattle.ir_stream.specs.Answers.{SplitBytes, onto, split_lines}
use Rattle.ir_stream.specs.Written.{split_of}

abbrev split_by_feed_test : Bool → ℕ → SplitBytes → SplitBytes
split_by_feed_test t x k = cond t (split_of ([] ∷ k.whole) k.rest) (onto x k.whole k.rest)

feed_test_of_split : (t : Bool) (x : ℕ) (ws : List (List ℕ)) (r : List ℕ) (vs : List (List ℕ)) (q : List ℕ)
    → split_by_feed_test t x (split_of (ws ++ r ∷ vs) q) ≡ split_of ((split_by_feed_test t x (split_of ws r)).whole ++ (split_by_feed_test t x (split_of ws r)).rest ∷ vs) q
feed_test_of_split true x ws r vs q = refl
feed_test_of_split false x [] r vs q = refl
feed_test_of_split false x (w ∷ ws) r vs q = refl

-- a line feed ends a line
pub split_ends_at_feed : (bytes more : List ℕ) → split_lines (bytes ++ 10 ∷ more) ≡ split_of ((split_lines bytes).whole ++ (split_lines bytes).rest ∷ (split_lines more).whole)
    (split_lines more).rest
unfolding split_lines
split_ends_at_feed [] more = refl
split_ends_at_feed (x ∷ bytes) more = ap (λ (k : SplitBytes). split_by_feed_test (eqb x 10) x k) (split_ends_at_feed bytes more)
    ∙ feed_test_of_split (eqb x 10) x (split_lines bytes).whole (split_lines bytes).rest (split_lines more).whole (split_lines more).rest

feed_test_of_rest : (t : Bool) (x : ℕ) (ws : List (List ℕ)) (r : List ℕ) (b : ℕ)
    → split_by_feed_test t x (split_of ws (r ++ b ∷ [])) ≡ split_of (split_by_feed_test t x (split_of ws r)).whole ((split_by_feed_test t x (split_of ws r)).rest ++ b ∷ [])
feed_test_of_rest true x ws r b = refl
feed_test_of_rest false x [] r b = refl
feed_test_of_rest false x (w ∷ ws) r b = refl

-- any other byte goes onto the last line
pub split_adds_to_rest : (bytes : List ℕ) (b : ℕ) → eqb b 10 ≡ false → split_lines (bytes ++ b ∷ []) ≡ split_of (split_lines bytes).whole ((split_lines bytes).rest ++ b ∷ [])
unfolding split_lines
split_adds_to_rest [] b e = rw e refl
split_adds_to_rest (x ∷ bytes) b e = ap (λ (k : SplitBytes). split_by_feed_test (eqb x 10) x k) (split_adds_to_rest bytes b e)
    ∙ feed_test_of_rest (eqb x 10) x (split_lines bytes).whole (split_lines bytes).rest b

-- only the prefix of a line is kept
pub take_append_inner_take : (n : ℕ) (xs ys : List ℕ) → take n (take n xs ++ ys) ≡ take n (xs ++ ys)
take_append_inner_take zero xs ys = refl
take_append_inner_take (suc n) [] ys = refl
take_append_inner_take (suc n) (x ∷ xs) ys = ap (λ (zs : List ℕ). x ∷ zs) (take_append_inner_take n xs ys)
