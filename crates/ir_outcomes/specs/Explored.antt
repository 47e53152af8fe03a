-- The outcomes of a guest, listed.
use Rattle.std.specs.Prelude.{◌≡◌, ◌↔◌, ℕ, suc, ◌<◌, ◌≤◌, Bool, true, List, Option, Some, None, length, slice_get}
use Rattle.ir_search.specs.declared.origin.Origin.{Origin}
use Rattle.ir_search.specs.declared.search.Ended.TheVariants.{Finished, Covered, Stopped}
use Rattle.ir_search.specs.declared.stop.Stop.{Stop}
use Rattle.ir_search.specs.declared.stop.Stop.TheVariants.{Outcomes}
use Rattle.ir_search.specs.Ways.{shut}
use Rattle.ir_record.specs.Recording.{turns_of_items}
use Rattle.ir_runs.specs.Run.{Step}
use Rattle.ir_flat.specs.Flat.{tables}
use Rattle.ir_state_store.specs.Nodes.{SourcedFlat}
use Rattle.ir_graph.specs.Hangs.{IsHangOf, AreMarked}
use Rattle.ir_graph.specs.Nodes.{AreNodes}
use Rattle.ir_graph.specs.Reached.{AllReached}
use Rattle.ir_graph.specs.Standing.{AllFound, NeedsSwitches}
use Rattle.ir_graph.specs.Setup.{Setup, IsCountedOf}
use Rattle.ir_graph.specs.Stops.{MayStop}
use Rattle.ir_graph.specs.Times.{HasTimedRun}
use Rattle.ir_graph.specs.declared.bounds.Bounds.{Bounds}
use Rattle.ir_graph.specs.Outcomes.{RunOutcome, run_outcome}
use Rattle.ir_outcomes.specs.declared.explored.Explored.{Explored}
use Rattle.ir_outcomes.specs.Shown.{outcome_by, switches_by, IsShown, IsHangShown}
use Rattle.ir_outcomes.specs.declared.shown.Shown.{Shown}

-- some complete run of the guest comes to it: one in which each call is answered by its thread's source, no budget is spent and no log is full,
-- whatever the budget
abbrev pub IsOutcomeOf : Setup → RunOutcome → Type 0
IsOutcomeOf setup x = (budget : ℕ) × (steps : List Step) × IsCountedOf setup budget steps × (outcome_by setup budget steps ≡ x)

-- some run of the guest hangs: it counts, and no run that counts brings it to an end, even if no budget and no log came to its end
abbrev pub HasHang : Setup → Type 0
HasHang setup = (budget : ℕ) × (steps : List Step) × IsHangOf setup budget steps

-- the i-th of the listed is at this state
abbrev pub ShowsState : List SourcedFlat → List Shown → ℕ → Shown → SourcedFlat → Type 0
ShowsState flats outcomes i x s = (slice_get outcomes i ≡ Some x) × (slice_get flats x.node ≡ Some s)

-- one of the listed is this outcome
abbrev pub IsIn : List SourcedFlat → List Shown → RunOutcome → Type 0
IsIn flats outcomes y = (i : ℕ) × (x : Shown) × (s : SourcedFlat) × ShowsState flats outcomes i x s × (run_outcome (tables s.flat) ≡ y)

-- Different outcomes of the guest, each with turns that lead to it with fewest switches, by rising numbers of them. Those of runs with
-- fewer switches than levels are all among them, and none needs more. Runs in which a budget is spent or a log is full aside.
pub record AreExplored (setup : Setup) (flats : List SourcedFlat) (levels : ℕ) (outcomes : List Shown) : Type 0 where
  pub shown : (i : ℕ) (x : Shown) (s : SourcedFlat) → ShowsState flats outcomes i x s → IsShown setup s x.level (turns_of_items x.turns.items)
  pub fewest : (i : ℕ) (x : Shown) (s : SourcedFlat) → ShowsState flats outcomes i x s → (budget : ℕ) (steps : List Step)
      → IsCountedOf setup budget steps → outcome_by setup budget steps ≡ run_outcome (tables s.flat) → x.level ≤ switches_by setup budget steps
  pub different : (i j : ℕ) (x y : Shown) (s u : SourcedFlat) → ShowsState flats outcomes i x s → ShowsState flats outcomes j y u
      → run_outcome (tables s.flat) ≡ run_outcome (tables u.flat) → i ≡ j
  pub rising : (i j : ℕ) (x y : Shown) → slice_get outcomes i ≡ Some x → slice_get outcomes j ≡ Some y → i < j → x.level ≤ y.level
  pub nodes : (i : ℕ) (x : Shown) → slice_get outcomes i ≡ Some x → x.node < length flats
  pub most : (i : ℕ) (x : Shown) → slice_get outcomes i ≡ Some x → x.level ≤ levels
  pub covered : (c : ℕ) → c < levels → (budget : ℕ) (steps : List Step) → IsCountedOf setup budget steps
      → switches_by setup budget steps ≤ c → IsIn flats outcomes (outcome_by setup budget steps)

-- exactly the outcomes of the guest are listed
abbrev pub AreAll : Setup → List SourcedFlat → List Shown → Type 0
AreAll setup flats outcomes = (x : RunOutcome) → IsOutcomeOf setup x ↔ IsIn flats outcomes x

-- each of the listed nodes, up to a place, is shown
pub record AreOutcomesShown (setup : Setup) (flats : List SourcedFlat) (origins : List Origin) (listed : List ℕ) (many : ℕ) (outcomes : List Shown)
    : Type 0 where
  pub count : length outcomes ≡ many
  pub node : (i : ℕ) (x : Shown) → slice_get outcomes i ≡ Some x → slice_get listed i ≡ Some x.node
  pub level : (i : ℕ) (x : Shown) (n : Origin) → slice_get outcomes i ≡ Some x → slice_get origins x.node ≡ Some n → x.level ≡ n.level
  pub shown : (i : ℕ) (x : Shown) (s : SourcedFlat) → ShowsState flats outcomes i x s → IsShown setup s x.level (turns_of_items x.turns.items)

-- no more than there may be
abbrev pub IsFew : Bounds → ℕ → Type 0
IsFew bounds count = (most : ℕ) → bounds.outcomes ≡ Some most → count ≤ most

-- some complete run of the guest comes to another outcome than those that are listed
abbrev pub HasFurther : Setup → List SourcedFlat → List Shown → Type 0
HasFurther setup flats outcomes = (x : RunOutcome) × IsOutcomeOf setup x × (IsIn flats outcomes x → ⊥)

-- Why a search within these bounds ends with these states and outcomes before it is over: there are as many outcomes as there may be, and some run
-- comes to another; or it stops for what a search over the states stops for.
abbrev pub MayEnd : Setup → List SourcedFlat → Bounds → List Shown → Stop → Type 0
MayEnd setup flats bounds outcomes Outcomes = (bounds.outcomes ≡ Some (length outcomes)) × HasFurther setup flats outcomes
MayEnd setup flats bounds outcomes why = MayStop setup flats bounds why

-- So many states can't be brought to an end, each of which some run leads to. Where there is one, a run is shown that hangs, with fewest
-- switches of those that do.
pub record AreHangs (setup : Setup) (flats : List SourcedFlat) (hangs : ℕ) (hang : Option Shown) : Type 0 where
  pub marks : List Bool
  pub marked : AreMarked flats marks
  pub count : hangs ≡ shut marks
  pub exact : HasHang setup ↔ (0 < hangs)
  pub some : 0 < hangs → (x : Shown) × (hang ≡ Some x)
  pub shown : (x : Shown) → hang ≡ Some x → IsHangShown setup x.level (turns_of_items x.turns.items)
  pub fewest : (x : Shown) → hang ≡ Some x → (budget : ℕ) (steps : List Step) → IsHangOf setup budget steps
      → x.level ≤ switches_by setup budget steps

-- what was found out about a guest, explored within these bounds and up to so many switches
pub record IsExplored (setup : Setup) (bounds : Bounds) (most : ℕ) (e : Explored) : Type 0 where
  -- however it ended, what is listed is right, and complete up to a number of switches
  pub explored : AreExplored setup e.states.graph.flats.items e.levels e.outcomes.items
  -- its states are different ones of the guest at rest, to each of which a run leads
  pub nodes : AreNodes e.states.graph.flats.items
  pub reached : AllReached setup e.states.graph.flats.items
  -- once it is finished, they are all: each run that counts and ends where all threads rest ends at one of them
  pub found : e.ended ≡ Finished → AllFound setup e.states.graph.flats.items
  -- once it is finished, an outcome is listed exactly where some complete run of the guest has it
  pub all : e.ended ≡ Finished → AreAll setup e.states.graph.flats.items e.outcomes.items
  -- so are its hangs: one is shown exactly where some run of the guest can't be brought to an end
  pub hangs : e.ended ≡ Finished → AreHangs setup e.states.graph.flats.items e.hangs e.hang
  pub unknown : (e.ended ≡ Finished → ⊥) → e.hang ≡ None
  -- calls for the time: some run of the guest that counts answers one; once it is finished, exactly then
  pub timed : e.states.graph.timed ≡ true → HasTimedRun setup
  pub untimed : e.ended ≡ Finished → HasTimedRun setup → e.states.graph.timed ≡ true
  -- it ended so only where all levels that are wanted are gone over, and some state needs as many switches as there may be
  pub covered : e.ended ≡ Covered → e.levels ≡ suc most
  pub left : e.ended ≡ Covered → (v : ℕ) × (s : SourcedFlat) × (slice_get e.states.graph.flats.items v ≡ Some s) × NeedsSwitches setup s most
  -- there are no more outcomes than there may be
  pub few : IsFew bounds (length e.outcomes.items)
  -- it stopped only where the states are as many as may be, memory ends, its seconds are bounded, a run leads to a thread that is not followed, or
  -- the outcomes are as many as may be, and there is another
  pub stopped : (why : Stop) → e.ended ≡ Stopped why → MayEnd setup e.states.graph.flats.items bounds e.outcomes.items why
