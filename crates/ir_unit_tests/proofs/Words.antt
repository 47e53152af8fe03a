-- Words that fit one by one fit as a list.
use Rattle.std.proofs.Common.{ℕ, suc, List, [], ◌∷◌}
use Rattle.std.specs.Prelude.{slice_index}
use Rattle.std.specs.List.{AllByRecursion}
use Rattle.ir_image.specs.Bounds.{IsWord}

pub all_words_by_index : (words : List ℕ) → ((i : ℕ) → IsWord (slice_index words i)) → AllByRecursion IsWord words
all_words_by_index [] each = tt
all_words_by_index (w ∷ ws) each = (each 0, all_words_by_index ws (λ i. each (suc i)))
