-- What a search over the states of a guest gives.
use Rattle.std.specs.Prelude.{◌≡◌, ◌↔◌, true, ℕ, ◌<◌, ◌≤◌, List, Some, length, slice_get}
use Rattle.ir_search.specs.declared.origin.Origin.{Origin}
use Rattle.ir_search.specs.Following.{Stay}
use Rattle.ir_search.specs.Levels.{rows}
use Rattle.ir_search.specs.Origins.{AreReached, AreOriginsRising, Adds}
use Rattle.ir_search.specs.Searching.{HasGone, IsBetween}
use Rattle.ir_state_store.specs.Nodes.{SourcedFlat}
use Rattle.ir_graph.specs.Setup.{Setup}
use Rattle.ir_graph.specs.Ahead.{AreTurns}
use Rattle.ir_graph.specs.Graph.{IsGraph}
use Rattle.ir_graph.specs.Hangs.{AllStand}
use Rattle.ir_graph.specs.Nodes.{AreNodes}
use Rattle.ir_graph.specs.Notes.{noted_by}
use Rattle.ir_graph.specs.Outcomes.{AllListed, WithinListed}
use Rattle.ir_graph.specs.Reached.{AllReached}
use Rattle.ir_graph.specs.Standing.{AllFound, WithinFound}
use Rattle.ir_graph.specs.Times.{HasTimedRun, KnowsTimes}
use Rattle.ir_graph.specs.declared.states.States.{States}

-- The states are those of this guest at rest, to each of which a run leads. Origins are known of the first of them, by rising levels, and so
-- many levels are gone over.
pub record AreSearched (x : Setup) (flats : List SourcedFlat) (origins : List Origin) (levels : ℕ) : Type 0 where
  pub states : AreNodes flats
  pub reached : AllReached x flats
  pub few : length origins ≤ length flats
  pub rising : AreOriginsRising origins
  pub most : (v : ℕ) (n : Origin) → slice_get origins v ≡ Some n → n.level ≤ levels
  pub within : (c : ℕ) → c < levels → WithinListed x flats origins c
  pub found : (c : ℕ) → c < levels → WithinFound x flats origins c

-- A search over the graph of a guest. It came to the first of the states as their origins say.
pub record IsSearch (s : States) : Type 0 where
  pub graph : IsGraph s.graph.setup s.graph.flats.items (noted_by s.graph.rows.items s.graph.refused_rows.items) (length s.graph.rows.items)
  pub turns : AreTurns s.graph.setup.guest.code s.graph.flats.shared s.graph.ahead
  pub room : length s.graph.flats.items ≤ s.graph.bounds.nodes
  pub threads : length (rows s.search.opened.items) ≡ length s.graph.rows.items
  pub code : s.graph.flats.code ≡ s.graph.setup.guest.code
  pub ways : AreReached (noted_by s.graph.rows.items s.graph.refused_rows.items) s.search.found.refusals.items s.search.found.nodes.items
  pub few : length s.search.found.nodes.items ≤ length s.graph.flats.items
  pub times : KnowsTimes s.graph.setup s.graph.flats.items (noted_by s.graph.rows.items s.graph.refused_rows.items) s.graph.timed

-- A search has gone on: over the graph of the same guest, as far as before. Its states stay, and those that it has found are of this level.
pub record SearchGoesOn (old new : States) : Type 0 where
  pub is : IsSearch new
  pub setup : new.graph.setup ≡ old.graph.setup
  pub bounds : new.graph.bounds ≡ old.graph.bounds
  pub stay : Stay old.graph.flats.items new.graph.flats.items
  pub adds : Adds old.search.level.number old.search.found.nodes.items new.search.found.nodes.items

-- it stands between two levels
abbrev pub StandsBetween : States → Type 0
StandsBetween s =
    IsBetween (noted_by s.graph.rows.items s.graph.refused_rows.items) (length s.graph.flats.items) s.search.found.nodes.items
    s.search.found.refusals.items (rows s.search.opened.items) s.search.level

-- so many levels are gone over
abbrev pub HasLevels : States → ℕ → Type 0
HasLevels s n =
    HasGone (noted_by s.graph.rows.items s.graph.refused_rows.items) (length (rows s.search.opened.items)) (length s.graph.flats.items)
    s.search.found.nodes.items s.search.found.refusals.items n

-- each outcome of the guest is that of a listed state; its runs that count stand at listed states, and end there where all threads rest; it is
-- known whether some of them answers a call for the time
pub record IsWholeGraph (s : States) : Type 0 where
  pub all : AllListed s.graph.setup s.graph.flats.items
  pub nodes : length s.search.found.nodes.items ≡ length s.graph.flats.items
  pub found : AllFound s.graph.setup s.graph.flats.items
  pub stand : AllStand s.graph.setup s.graph.flats.items s.search.found.nodes.items
  pub timed : (s.graph.timed ≡ true) ↔ HasTimedRun s.graph.setup
