-- How a search came to each of its nodes.
use Rattle.std.specs.Prelude.{◌≡◌, ℕ, suc, zero, ◌≤◌, ◌<◌, Bool, true, false, List, [], ◌∷◌, ◌++◌, replicate, length, Some, slice_get}
use Rattle.ir_search.specs.declared.origin.Level.{Level}
use Rattle.ir_search.specs.declared.origin.Origin.{Origin}
use Rattle.ir_search.specs.declared.origin.Refusal.{Refusal}
use Rattle.ir_search.specs.Following.{BothWays}

-- by these ways of the thread, one after the other, from node v to node w, over nodes below `size`
abbrev pub Goes : BothWays → ℕ → ℕ → List Bool → ℕ → Type 0
Goes leading size v [] w = v ≡ w
Goes leading size v (refused ∷ ways) w = (x : ℕ) × (leading refused v ≡ Some (Some x)) × (x < size) × Goes leading size x ways w

-- The ways that the table has under a number: under 0 there are none. Each other number is a place and 1, and what stands there gives the
-- ways under an earlier number, then so many that aren't refused, and then one that is.
pub data AreWaysUnder (refusals : List Refusal) : ℕ → List Bool → Type 0 where
  Whole : AreWaysUnder refusals zero []
  Refused : (i : ℕ) → (x : Refusal) → (before : List Bool) → slice_get refusals i ≡ Some x → x.before ≤ i → AreWaysUnder refusals x.before before
      → AreWaysUnder refusals (suc i) (before ++ replicate x.entries false ++ true ∷ [])

-- the ways of a turn: those under its number, and then so many that aren't refused
abbrev pub AreWaysOf : List Refusal → Origin → List Bool → Type 0
AreWaysOf refusals n ways = (before : List Bool) × AreWaysUnder refusals n.last_refusal before × (ways ≡ before ++ replicate n.entries false)

-- in level k a turn may begin at this node: at the first, or at one of the level before
abbrev pub BeginsAt : List Origin → ℕ → ℕ → Type 0
BeginsAt nodes zero from = from ≡ 0
BeginsAt nodes (suc k) from = (n : Origin) × (slice_get nodes from ≡ Some n) × (n.level ≡ k)

-- the first node, where the search began
abbrev pub first_origin : Origin
first_origin = record { from = 0; thread = 0; last_refusal = 0; entries = 0; level = 0 }

-- node v was reached so: a turn may begin where this one did, and its ways lead from there to v
abbrev pub IsReachedBy : (ℕ → BothWays) → List Refusal → List Origin → ℕ → Origin → Type 0
IsReachedBy noted refusals nodes v n = BeginsAt nodes n.level n.from
    × (ways : List Bool) × AreWaysOf refusals n ways × Goes (noted n.thread) (length nodes) n.from ways v

-- each node was reached as its origin says
abbrev pub AreReached : (ℕ → BothWays) → List Refusal → List Origin → Type 0
AreReached noted refusals nodes = (v : ℕ) (n : Origin) → slice_get nodes v ≡ Some n → IsReachedBy noted refusals nodes v n

-- in this level a turn may begin at each of its nodes
abbrev pub IsLevel : List Origin → Level → Type 0
IsLevel nodes level = (v : ℕ) → level.first ≤ v → v < level.until → BeginsAt nodes level.number v

-- the nodes come in the order of their levels
abbrev pub AreOriginsRising : List Origin → Type 0
AreOriginsRising nodes = (u v : ℕ) (a b : Origin) → slice_get nodes u ≡ Some a → slice_get nodes v ≡ Some b → u ≤ v → a.level ≤ b.level

-- nodes of level k were added
pub record Adds (k : ℕ) (old new : List Origin) : Type 0 where
  pub stays : (v : ℕ) (n : Origin) → slice_get old v ≡ Some n → slice_get new v ≡ Some n
  pub level : (v : ℕ) (n : Origin) → length old ≤ v → slice_get new v ≡ Some n → n.level ≡ k
  pub longer : length old ≤ length new

-- this order of threads leads to a node of level k
abbrev pub LeadsByWay : List Refusal → List Origin → ℕ → ℕ → List ℕ → Type 0
LeadsByWay refusals nodes zero v ts = (n : Origin) × (slice_get nodes v ≡ Some n)
    × (ways : List Bool) × AreWaysOf refusals n ways × (ts ≡ replicate (length ways) n.thread)
LeadsByWay refusals nodes (suc k) v ts = (n : Origin) × (slice_get nodes v ≡ Some n) × (us : List ℕ) × LeadsByWay refusals nodes k n.from us
    × (ways : List Bool) × AreWaysOf refusals n ways × (ts ≡ us ++ replicate (length ways) n.thread)
