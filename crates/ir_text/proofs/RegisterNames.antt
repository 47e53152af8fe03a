-- The names of the registers are short.
use Rattle.std.proofs.Common.{◌≡◌, ◌≤◌, ◌+◌, ◌++◌, add-one, ℕ, zero, suc, true, List, [], ◌∷◌, length, leb, refl, arith}
use Rattle.std.specs.Prelude.{slice_index_or}
use Rattle.std.specs.List.{list_all}
use Rattle.std.proofs.lemmas.Bool.{and_parts, leb-true}
use Rattle.ir_isa.specs.Fields.{register_name, register_names}
use Rattle.ir_mach.specs.Core.{Core}
use Rattle.ir_text.specs.Texts.{registers_text}
use Rattle.ir_text.specs.Parts.{register_text}

listed_name_short : (names : List (List ℕ)) (i : ℕ) → list_all (λ name. leb (length name) 4) names ≡ true → length (slice_index_or names i []) ≤ 4
listed_name_short [] i e = omega arith
listed_name_short (name ∷ names) zero e = leb-true _ _ (and_parts _ _ e).0
listed_name_short (name ∷ names) (suc i) e = listed_name_short names i (and_parts _ _ e).1

pub register_name_short : (n : ℕ) → length (register_name n) ≤ 4
register_name_short n = listed_name_short register_names n refl

-- one register more
pub registers_text_step : (m : Core) (n : ℕ) → registers_text m (n + 1) ≡ registers_text m n ++ register_text m n
unfolding registers_text
registers_text_step m n = rw add-one refl

pub registers_text_of_none : (m : Core) → registers_text m 0 ≡ []
unfolding registers_text
registers_text_of_none m = refl
