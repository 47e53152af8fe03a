-- One thread that goes on alone from node to node.
use Rattle.std.specs.Prelude.{◌≡◌, ℕ, ◌≤◌, ◌<◌, Bool, true, List, ◌⊎◌, Some, None, slice_get}
use Rattle.std.specs.declared.option.Option.{Option}

-- where a thread leads from each node by one way: it hasn't been asked, to no node, or to this one
abbrev pub Leading : Type 0
Leading = ℕ → Option (Option ℕ)

-- the two ways of a thread: its try is refused, or it takes any other step
abbrev pub BothWays : Type 0
BothWays = Bool → Leading

-- what was noted stays
abbrev pub Keeps : Leading → Leading → Type 0
Keeps old new = (v : ℕ) (next : Option ℕ) → old v ≡ Some next → new v ≡ Some next

-- no more than nodes were added
abbrev pub Stay : {A : Type 0} → List A → List A → Type 0
Stay {A} old new = (v : ℕ) (x : A) → slice_get old v ≡ Some x → slice_get new v ≡ Some x

-- node v is opened
abbrev pub IsNodeOpen : List Bool → ℕ → Type 0
IsNodeOpen opened v = slice_get opened v ≡ Some true

-- all that was opened stays so
abbrev pub StaysOpen : List Bool → List Bool → Type 0
StaysOpen old new = (v : ℕ) → IsNodeOpen old v → IsNodeOpen new v

-- from node v the thread can't go on, or it goes on to a node of these
abbrev pub GoesTo : Leading → (ℕ → Type 0) → ℕ → Type 0
GoesTo leading Those v = (leading v ≡ Some None) ⊎ ((w : ℕ) × (leading v ≡ Some (Some w)) × Those w)

-- by each way the thread can't go on from each opened node, or it goes on to an opened one
abbrev pub IsWayFollowed : BothWays → List Bool → Type 0
IsWayFollowed leading opened = (v : ℕ) → IsNodeOpen opened v → (refused : Bool) → GoesTo (leading refused) (IsNodeOpen opened) v

-- each node from `first` on below `until` is opened
abbrev pub AreOpen : List Bool → ℕ → ℕ → Type 0
AreOpen opened first until = (v : ℕ) → first ≤ v → v < until → IsNodeOpen opened v
