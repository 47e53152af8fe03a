-- How outcomes are compared, by what counts of their states.
use Rattle.std.specs.Prelude.{◌≡◌, ◌↔◌, ◌⊎◌, ℕ, Bool, true, false, List, length, slice_get, Some}
use Rattle.ir_flat.specs.Flat.{IsFlat}
use Rattle.ir_outcomes.specs.Explored.{ShowsState}
use Rattle.ir_outcomes.specs.declared.shown.Shown.{Shown}
use Rattle.ir_schedule.specs.Conditions.{EndState, end_state}
use Rattle.ir_state_store.specs.Nodes.{SourcedFlat}
use Rattle.ir_within.specs.Aspects.{Aspects, what_counts}

-- what counts of each listed outcome
pub record AreSeen (a : Aspects) (flats : List SourcedFlat) (outcomes : List Shown) (all : List EndState) : Type 0 where
  pub count : length all ≡ length outcomes
  pub each : (i : ℕ) (x : Shown) (s : SourcedFlat) → ShowsState flats outcomes i x s → slice_get all i ≡ Some (what_counts a (end_state s.flat))
  pub flat : (i : ℕ) (x : Shown) (s : SourcedFlat) → ShowsState flats outcomes i x s → IsFlat s.flat

-- one of these is this
abbrev pub HasSame : List EndState → EndState → Type 0
HasSame all x = (j : ℕ) × (slice_get all j ≡ Some x)

-- the same are among both
abbrev pub HoldsSame : List EndState → List EndState → Type 0
HoldsSame some others = (x : EndState) → HasSame some x ↔ HasSame others x

-- they are among those before, or this one
abbrev pub HoldsAlso : List EndState → EndState → List EndState → Type 0
HoldsAlso old one new = (x : EndState) → HasSame new x ↔ (HasSame old x ⊎ (one ≡ x))

-- exactly what counts of the listed outcomes is kept
abbrev pub AreKept : Aspects → List SourcedFlat → List Shown → List EndState → Type 0
AreKept a flats outcomes kept = (all : List EndState) × AreSeen a flats outcomes all × HoldsSame kept all

-- of each listed outcome it is said whether none of these is the same in what counts
pub record AreCompared (a : Aspects) (flats : List SourcedFlat) (outcomes : List Shown) (others : List EndState) (outside : List Bool) : Type 0 where
  pub count : length outside ≡ length outcomes
  pub among : (i : ℕ) (x : Shown) (s : SourcedFlat) → ShowsState flats outcomes i x s → slice_get outside i ≡ Some false
      → HasSame others (what_counts a (end_state s.flat))
  pub none : (i : ℕ) (x : Shown) (s : SourcedFlat) → ShowsState flats outcomes i x s → slice_get outside i ≡ Some true
      → HasSame others (what_counts a (end_state s.flat)) → ⊥
  pub flat : (i : ℕ) (x : Shown) (s : SourcedFlat) → ShowsState flats outcomes i x s → IsFlat s.flat
