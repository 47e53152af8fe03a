-- Nodes from which threads lead to marked ones.
use Rattle.std.specs.Prelude.{◌≡◌, ℕ, suc, ◌<◌, Bool, true, false, List, [], ◌∷◌, Some, length}
use Rattle.ir_search.specs.Following.{BothWays, IsNodeOpen}

-- how many nodes aren't marked
unfoldable pub shut : List Bool → ℕ
shut [] = 0
shut (true ∷ marks) = shut marks
shut (false ∷ marks) = suc (shut marks)

-- some of these threads leads by some way from node v to a marked one
abbrev pub LeadsToMarked : (ℕ → BothWays) → ℕ → List Bool → ℕ → Type 0
LeadsToMarked noted threads marks v = (t : ℕ) × (refused : Bool) × (w : ℕ) × (t < threads) × (noted t refused v ≡ Some (Some w)) × IsNodeOpen marks w

-- each node from which one of them leads to a marked one is marked
abbrev pub IsMarkedBack : (ℕ → BothWays) → ℕ → List Bool → Type 0
IsMarkedBack noted threads marks = (v : ℕ) → v < length marks → LeadsToMarked noted threads marks v → IsNodeOpen marks v

-- these threads lead, in this order and each by this way, from node v to node w, over nodes below `size`
abbrev pub LeadsOver : (ℕ → BothWays) → ℕ → ℕ → ℕ → List (ℕ × Bool) → ℕ → Type 0
LeadsOver noted threads size v [] w = v ≡ w
LeadsOver noted threads size v ((t, refused) ∷ ts) w = (x : ℕ) × (t < threads) × (noted t refused v ≡ Some (Some x)) × (x < size)
    × LeadsOver noted threads size x ts w

-- some order of them leads from node v to a marked one
abbrev pub HasMarked : (ℕ → BothWays) → ℕ → List Bool → ℕ → Type 0
HasMarked noted threads marks v = (v < length marks) × (ts : List (ℕ × Bool)) × (w : ℕ) × LeadsOver noted threads (length marks) v ts w × IsNodeOpen marks w
