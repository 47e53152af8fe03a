-- Where threads lead from nodes, as it was noted.
use Rattle.std.specs.Prelude.{◌≡◌, ℕ, zero, suc, Bool, true, false, List, [], ◌∷◌, Option, Some, None, refl}
use Rattle.std.specs.Global.{Vec}
use Rattle.std.specs.List.{slice_index_or}

-- where a thread leads, by the code of a lead: it hasn't been asked, to no node, or to this one
abbrev pub lead_of : ℕ → Option (Option ℕ)
lead_of zero = None
lead_of (suc zero) = Some None
lead_of (suc (suc v)) = Some (Some v)

-- the code of a lead
abbrev pub code_of : Option (Option ℕ) → ℕ
code_of None = 0
code_of (Some None) = 1
code_of (Some (Some v)) = suc (suc v)

pub code_of_lead : (n : ℕ) → code_of (lead_of n) ≡ n
code_of_lead zero = refl
code_of_lead (suc zero) = refl
code_of_lead (suc (suc v)) = refl

-- Where thread t leads from node v: it hasn't been asked, to no node, or to this one. A number that is no thread's leads to none.
abbrev pub noted_in : List (Vec (Option (Option ℕ))) → ℕ → ℕ → Option (Option ℕ)
noted_in [] t v = Some None
noted_in (row ∷ rows) zero v = slice_index_or row.items v None
noted_in (row ∷ rows) (suc t) v = noted_in rows t v

-- the same, by whether its try is refused: each way has its own rows
abbrev pub noted_by : List (Vec (Option (Option ℕ))) → List (Vec (Option (Option ℕ))) → ℕ → Bool → ℕ → Option (Option ℕ)
noted_by rows refused_rows t false = noted_in rows t
noted_by rows refused_rows t true = noted_in refused_rows t
