-- States whose numbers are in two lists.
use Rattle.std.specs.Prelude.{ℕ, List, [], ◌+◌, ◌≤◌, take, drop}
use Rattle.ir_state_store.specs.declared.spot.Spot.{Spot}
use Rattle.ir_state_store.specs.Nodes.{Node}

-- where the numbers of a state are: its code, the places of the first of its threads and of its objects, and how many there are
pub record StorePlace : Type 0 where
  pub code : List ℕ
  pub thread : ℕ
  pub threads : ℕ
  pub object : ℕ
  pub objects : ℕ

-- so many elements from a place on
abbrev pub part : {X : Type 0} → List X → ℕ → ℕ → List X
part xs first count = take count (drop first xs)

-- the state whose numbers are there
abbrev pub node_at : List ℕ → List Spot → StorePlace → Node
node_at threads objects place = record {
  code = place.code;
  threads = part threads place.thread place.threads;
  objects = part objects place.object place.objects;
}

-- the lists have all of them
pub record IsPlacedNode (most many : ℕ) (place : StorePlace) : Type 0 where
  pub threads : place.thread + place.threads ≤ most
  pub objects : place.object + place.objects ≤ many

-- no state
abbrev pub no_node : Node
no_node = record { code = []; threads = []; objects = [] }
