-- A line, a label at a time.
use Rattle.std.proofs.Common.{◌≡◌, ℕ, List, [], ◌∷◌, drop, refl}
use Rattle.ir_asm.specs.Text.{split}
use Rattle.ir_asm.specs.Source.{all_but_last, last_segment}
use Rattle.ir_asm.proofs.Cuts.{split_begins_with_until}

last_of_tail : (x y : List ℕ) (l : List (List ℕ)) → l ≡ y ∷ drop 1 l → last_segment (x ∷ l) ≡ last_segment l
last_of_tail x y [] e = absurd (cc e)
last_of_tail x y (z ∷ l) e = refl

-- the last part is that of what follows the first
pub last_of_split : (c : ℕ) (x t : List ℕ) → last_segment (x ∷ split c t) ≡ last_segment (split c t)
last_of_split c x t = last_of_tail x _ (split c t) (split_begins_with_until c t)

all_but_last_of_tail : (x y : List ℕ) (l : List (List ℕ)) → l ≡ y ∷ drop 1 l → all_but_last (x ∷ l) ≡ x ∷ all_but_last l
all_but_last_of_tail x y [] e = absurd (cc e)
all_but_last_of_tail x y (z ∷ l) e = refl

-- a label, and those that follow
pub all_but_last_of_split : (c : ℕ) (x t : List ℕ) → all_but_last (x ∷ split c t) ≡ x ∷ all_but_last (split c t)
all_but_last_of_split c x t = all_but_last_of_tail x _ (split c t) (split_begins_with_until c t)

pub all_but_last_single : (x : List ℕ) → all_but_last (x ∷ []) ≡ []
all_but_last_single x = refl
