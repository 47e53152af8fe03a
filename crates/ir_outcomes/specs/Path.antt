-- How a search came to a node, backwards.
use Rattle.std.specs.Prelude.{◌≡◌, ◌<◌, ℕ, Bool, true, false, List, [], ◌∷◌, ◌++◌, replicate, Some, slice_get}
use Rattle.ir_search.specs.declared.origin.Origin.{Origin}
use Rattle.ir_search.specs.declared.origin.Refusal.{Refusal}

-- the turns that led to node v, the last first: each began where the one after it in this list led to, and the first of all in level 0
abbrev pub IsPathTo : List Origin → ℕ → List Origin → Type 0
IsPathTo origins v [] = ⊥
IsPathTo origins v (n ∷ []) = (slice_get origins v ≡ Some n) × (n.level ≡ 0)
IsPathTo origins v (n ∷ m ∷ path) = (slice_get origins v ≡ Some n) × IsPathTo origins n.from (m ∷ path)

-- each turn above level 0 began at a node of a lower level
abbrev pub FallInLevel : List Origin → Type 0
FallInLevel origins = (v : ℕ) (n : Origin) → slice_get origins v ≡ Some n → 0 < n.level
    → (m : Origin) × (slice_get origins n.from ≡ Some m) × (m.level < n.level)

-- the ways of these refused tries, of which the last comes first: so many steps that aren't refused, and then one that is
abbrev pub ways_of : List Refusal → List Bool
ways_of [] = []
ways_of (x ∷ refusals) = ways_of refusals ++ (replicate x.entries false ++ true ∷ [])
