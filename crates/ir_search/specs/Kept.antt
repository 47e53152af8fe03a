-- What a search keeps of a graph that grows.
use Rattle.std.specs.Prelude.{◌≡◌, ℕ, ◌≤◌, Bool, List, length}
use Rattle.ir_search.specs.declared.origin.Origin.{Origin}
use Rattle.ir_search.specs.declared.origin.Refusal.{Refusal}
use Rattle.ir_search.specs.Following.{BothWays, IsWayFollowed}
use Rattle.ir_search.specs.Levels.{AllFollowed, AreRowsWithin}
use Rattle.ir_search.specs.Origins.{AreReached, Adds}
use Rattle.ir_search.specs.Shape.{Shape, HasGrown}

-- Each node of a graph is found, and was reached as its origin says. The graph has no more nodes than it may have, and is sound.
pub record IsAllFound {Made Node : Type 0} (graph : Shape Made Node) (Sound : Type 0) (origins : List Origin) (refusals : List Refusal) : Type 0 where
  pub reached : AreReached graph.noted refusals origins
  pub nodes : length origins ≡ graph.size
  pub room : graph.size ≤ graph.most
  pub sound : Sound

-- What a search keeps of a graph while it finds nodes of level k, wherever it stops: nodes of this level were added to those that were found,
-- each was reached as its origin says, and the graph has as many at least. It has grown to no more nodes than it may have, and is sound.
pub record SearchKeeps {Made Node : Type 0} (k : ℕ) (old new : Shape Made Node) (Sound : Type 0) (nodes more : List Origin) (refusals : List Refusal) : Type 0 where
  pub reached : AreReached new.noted refusals more
  pub adds : Adds k nodes more
  pub few : length more ≤ new.size
  pub grows : HasGrown old new
  pub room : new.size ≤ new.most
  pub sound : Sound

-- what a thread has opened is followed, and its row has a place for each node
pub record IsRowFollowed (leading : BothWays) (opened : List Bool) (nodes : List Origin) : Type 0 where
  pub followed : IsWayFollowed leading opened
  pub row : length opened ≡ length nodes

-- what is opened is followed, of each thread, and no row has a place for a node that isn't there
pub record AreRowsFollowed (noted : ℕ → BothWays) (opened : List (List Bool)) (nodes : List Origin) : Type 0 where
  pub followed : AllFollowed noted opened
  pub rows : AreRowsWithin opened (length nodes)
