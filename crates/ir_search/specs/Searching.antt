-- A search that goes on level by level.
use Rattle.std.specs.Prelude.{◌≡◌, ℕ, ◌-◌, ◌≤◌, Bool, List, Some, length, slice_get}
use Rattle.ir_search.specs.declared.origin.Level.{Level}
use Rattle.ir_search.specs.declared.origin.Origin.{Origin}
use Rattle.ir_search.specs.declared.origin.Refusal.{Refusal}
use Rattle.ir_search.specs.Following.{BothWays}
use Rattle.ir_search.specs.Levels.{LevelEnds, AreGoneOver}
use Rattle.ir_search.specs.Origins.{first_origin, AreReached, AreOriginsRising, IsLevel}

-- so many levels are gone over, of a graph of `size` nodes: how the search came to each of the first of them
pub record HasGone (noted : ℕ → BothWays) (threads size : ℕ) (nodes : List Origin) (refusals : List Refusal) (levels : ℕ) : Type 0 where
  pub gone : AreGoneOver noted threads nodes levels
  pub reached : AreReached noted refusals nodes
  pub rising : AreOriginsRising nodes
  pub most : (v : ℕ) (n : Origin) → slice_get nodes v ≡ Some n → n.level ≤ levels
  pub first : slice_get nodes 0 ≡ Some first_origin
  pub few : length nodes ≤ size

-- the search stands between two levels: what it has opened is followed, and the next level is that of the nodes that the last has found
pub record IsBetween (noted : ℕ → BothWays) (size : ℕ) (nodes : List Origin) (refusals : List Refusal) (opened : List (List Bool)) (level : Level) : Type 0 where
  pub has : HasGone noted (length opened) size nodes refusals level.number
  pub ends : LevelEnds noted (length opened) nodes opened level.first (level.number - 1)
  pub stands : IsLevel nodes level
  pub all : length nodes ≡ size
  pub until : level.until ≡ length nodes
  pub order : level.first ≤ level.until
  pub number : level.number ≤ level.first
