-- The levels of a search: what each thread has opened, a row for each.
use Rattle.std.specs.Prelude.{◌≡◌, ℕ, suc, zero, ◌≤◌, ◌<◌, Bool, true, List, Some, map, length, slice_get}
use Rattle.std.specs.Global.{Vec}
use Rattle.ir_search.specs.declared.origin.Origin.{Origin}
use Rattle.ir_search.specs.Following.{BothWays, GoesTo, IsWayFollowed, AreOpen}

-- each thread's row
abbrev pub rows : List (Vec Bool) → List (List Bool)
rows opened = map (λ row. row.items) opened

-- what is opened is followed, of each thread
abbrev pub AllFollowed : (ℕ → BothWays) → List (List Bool) → Type 0
AllFollowed noted opened = (t : ℕ) (row : List Bool) → slice_get opened t ≡ Some row → IsWayFollowed (noted t) row

-- these nodes are opened for each thread below `threads`
abbrev pub AllOpen : List (List Bool) → ℕ → ℕ → ℕ → Type 0
AllOpen opened first until threads = (t : ℕ) (row : List Bool) → t < threads → slice_get opened t ≡ Some row → AreOpen row first until

-- no row has a place for a node from n on
abbrev pub AreRowsWithin : List (List Bool) → ℕ → Type 0
AreRowsWithin opened n = (t : ℕ) (row : List Bool) → slice_get opened t ≡ Some row → length row ≤ n

-- each of these threads was asked for both ways at each of these nodes, and leads to none but these
abbrev pub AreAsked : (ℕ → BothWays) → ℕ → ℕ → Type 0
AreAsked noted threads size = (v t : ℕ) → v < size → t < threads → (refused : Bool) → GoesTo (noted t refused) (λ w. w < size) v

-- What a level's end has in its rows: what is opened is followed and a node of these levels, and the nodes from the first to `until` are
-- opened for each thread.
pub record LevelEnds (noted : ℕ → BothWays) (threads : ℕ) (nodes : List Origin) (opened : List (List Bool)) (until number : ℕ) : Type 0 where
  pub threads_are : length opened ≡ threads
  pub followed : AllFollowed noted opened
  pub opens : AllOpen opened 0 until threads
  pub within : AreRowsWithin opened (length nodes)
  pub levels : (v : ℕ) (n : Origin) → slice_get nodes v ≡ Some n → n.level ≤ number

-- A search has gone over the levels from 0 to c: levels k v t says that by the end of level k node v was opened for thread t.
pub record Covered (noted : ℕ → BothWays) (threads : ℕ) (nodes : List Origin) (c : ℕ) : Type 0 where
  pub levels : ℕ → ℕ → ℕ → Bool
  -- the first node is opened in level 0
  pub opens : (t : ℕ) → t < threads → levels 0 0 t ≡ true
  -- a thread that goes on alone goes on in the same level
  pub followed : (k v t : ℕ) → k ≤ c → t < threads → levels k v t ≡ true → (refused : Bool)
      → GoesTo (noted t refused) (λ w. levels k w t ≡ true) v
  -- another thread's turn comes in the next
  pub turned : (k v t u : ℕ) → t < threads → u < threads → levels k v t ≡ true → k < c → levels (suc k) v u ≡ true
  -- a node that is opened by then was reached by as many switches at most
  pub within : (k v t : ℕ) → k ≤ c → t < threads → levels k v t ≡ true → (n : Origin) × (slice_get nodes v ≡ Some n) × (n.level ≤ k)

-- so many levels are gone over
abbrev pub AreGoneOver : (ℕ → BothWays) → ℕ → List Origin → ℕ → Type 0
AreGoneOver noted threads nodes zero = Unit {0}
AreGoneOver noted threads nodes (suc c) = Covered noted threads nodes c
