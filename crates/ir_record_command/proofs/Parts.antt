-- Texts that are cut at a mark.
use Rattle.std.proofs.Common.{◌≡◌, ◌<◌, ℕ, false, List, [], ◌∷◌, ◌++◌, length, get_or, refl, ap, ◌∙◌}
use Rattle.std.specs.Prelude.{◌≢◌, ◌==◌}
use Rattle.std.specs.List.{slice_split}
use Rattle.std.proofs.lemmas.Bool.{eq-eqb, ne_eqb}
use Rattle.std.proofs.lemmas.List.{get_or_default}
use Rattle.std.proofs.lemmas.List.Splits.{slice_split_none, slice_split_at}

other_byte_test_false : (mark : ℕ) (bs : List ℕ) (k d : ℕ) → k < length bs → get_or bs k 0 ≢ mark → (get_or bs k d == mark) ≡ false
other_byte_test_false mark bs k d l ne = ne_eqb (get_or bs k d) mark (λ e. ne (get_or_default bs k 0 d l ∙ e))

-- a text without the mark is one part
pub split_without_mark : (mark : ℕ) (bs : List ℕ) → ((i : ℕ) → i < length bs → get_or bs i 0 ≢ mark) → slice_split (λ b. b == mark) bs ≡ bs ∷ []
split_without_mark mark bs none = slice_split_none (λ b. b == mark) bs (λ k d l. other_byte_test_false mark bs k d l (none k l))

-- the first part ends at the first mark
pub split_at_first_mark : (mark : ℕ) (bs part rest : List ℕ) → bs ≡ part ++ mark ∷ rest → ((i : ℕ) → i < length part → get_or part i 0 ≢ mark)
    → slice_split (λ b. b == mark) bs ≡ part ∷ slice_split (λ b. b == mark) rest
split_at_first_mark mark bs part rest e none = ap (slice_split (λ b. b == mark)) e
    ∙ slice_split_at (λ b. b == mark) part mark rest (λ k d l. other_byte_test_false mark part k d l (none k l)) (eq-eqb mark mark refl)
