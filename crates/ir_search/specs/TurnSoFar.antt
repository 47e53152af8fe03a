-- A thread's turn, as far as it has come.
use Rattle.std.specs.Prelude.{◌≡◌, ℕ, suc, ◌+◌, ◌-◌, Bool, true, false, List, [], ◌∷◌, ◌++◌, ◌⊎◌, Some, length, slice_get}
use Rattle.ir_search.specs.declared.found.Pending.{Pending}
use Rattle.ir_search.specs.declared.origin.Origin.{Origin}
use Rattle.ir_search.specs.declared.origin.Refusal.{Refusal}
use Rattle.ir_search.specs.Following.{BothWays, IsNodeOpen, GoesTo}
use Rattle.ir_search.specs.Origins.{IsReachedBy, AreReached}
use Rattle.ir_search.specs.Ways.{shut}

-- one of these stands at node v
abbrev pub HasNode : List Pending → ℕ → Type 0
HasNode hand v = (i : ℕ) × (p : Pending) × (slice_get hand i ≡ Some p) × (p.node ≡ v)

-- The thread has a turn in this level. Each opened node is followed by both ways, or it is in hand: opened, reached in this turn, and not
-- followed yet.
pub record IsTurnSoFar (noted : ℕ → BothWays) (thread level : ℕ) (opened : List Bool) (nodes : List Origin) (refusals : List Refusal)
    (hand : List Pending) : Type 0 where
  pub wide : length opened ≡ length nodes
  pub reached : AreReached noted refusals nodes
  pub followed : (v : ℕ) → IsNodeOpen opened v → HasNode hand v ⊎ ((refused : Bool) → GoesTo (noted thread refused) (IsNodeOpen opened) v)
  pub opens : (i : ℕ) (p : Pending) → slice_get hand i ≡ Some p → IsNodeOpen opened p.node
  pub comes : (i : ℕ) (p : Pending) → slice_get hand i ≡ Some p → IsReachedBy noted refusals nodes p.node p.origin
  pub threads : (i : ℕ) (p : Pending) → slice_get hand i ≡ Some p → p.origin.thread ≡ thread
  pub levels : (i : ℕ) (p : Pending) → slice_get hand i ≡ Some p → p.origin.level ≡ level

-- how many nodes are left to open, of so many that there may be
abbrev pub left_to_open : ℕ → List Bool → ℕ
left_to_open most opened = shut opened + (most - length opened)

-- How a thread comes to a node by one step more, with its try refused or not: the table was this, and is that then.
abbrev pub IsAfter : List Refusal → List Refusal → Origin → Bool → Origin → Type 0
IsAfter old new n false next = (new ≡ old) × (next ≡ record n { entries = suc n.entries })
IsAfter old new n true next = (new ≡ old ++ record { before = n.last_refusal; entries = n.entries } ∷ [])
    × (next ≡ record n { last_refusal = suc (length old); entries = 0 })
