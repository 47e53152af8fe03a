-- The shape of a graph that grows.
use Rattle.std.specs.Prelude.{◌≡◌, ℕ, ◌≤◌, Bool, List}
use Rattle.ir_search.specs.Following.{BothWays, Keeps, Stay}

-- What a search sees of a graph: where each thread leads by its two ways, as far as it was asked; what each node stands for; how many nodes
-- there are, and how many there may be; and what the graph was made of.
pub record Shape (Made Node : Type 0) : Type 0 where
  pub noted : ℕ → BothWays
  pub nodes : List Node
  pub size : ℕ
  pub most : ℕ
  pub origin : Made

-- A graph has grown: what was noted stays, no more than nodes were added, there may be as many as before, and it was made of the same.
pub record HasGrown {Made Node : Type 0} (old new : Shape Made Node) : Type 0 where
  pub grown : old.size ≤ new.size
  pub kept : (t : ℕ) (way : Bool) → Keeps (old.noted t way) (new.noted t way)
  pub stay : Stay old.nodes new.nodes
  pub limit : new.most ≡ old.most
  pub origin : new.origin ≡ old.origin
