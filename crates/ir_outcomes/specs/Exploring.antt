-- The outcomes of a guest while a search for them goes on, level by level.
use Rattle.std.specs.Prelude.{◌≡◌, ℕ, suc, ◌<◌, ◌≤◌, List, Option, Some, None, length}
use Rattle.ir_search.specs.declared.origin.Origin.{Origin}
use Rattle.ir_search.specs.declared.stop.Stop.{Stop}
use Rattle.ir_state_store.specs.Nodes.{SourcedFlat}
use Rattle.ir_graph.specs.Listing.{AreOutcomes}
use Rattle.ir_graph.specs.Searched.{AreSearched, IsSearch, StandsBetween}
use Rattle.ir_graph.specs.Setup.{Setup}
use Rattle.ir_outcomes.specs.Explored.{AreExplored, AreOutcomesShown, IsFew, MayEnd}
use Rattle.ir_outcomes.specs.declared.exploring.Exploring.{Exploring}
use Rattle.ir_outcomes.specs.declared.shown.Shown.{Shown}

-- of the first `seen` nodes where all threads are done, the first with each outcome is listed, and shown
pub record HasShown (setup : Setup) (flats : List SourcedFlat) (origins : List Origin) (seen : ℕ) (listed : List ℕ) (outcomes : List Shown) : Type 0 where
  pub different : AreOutcomes flats seen listed
  pub shown : AreOutcomesShown setup flats origins listed (length listed) outcomes

-- The search can go on: it stands between two levels, and the outcomes among all states that it has found are shown, once it has gone over a
-- level.
pub record CanGoOn (e : Exploring) : Type 0 where
  pub between : StandsBetween e.states
  pub searched : 0 < e.states.search.level.first
      → AreSearched e.states.graph.setup e.states.graph.flats.items e.states.search.found.nodes.items e.states.search.level.number
  pub has : HasShown e.states.graph.setup e.states.graph.flats.items e.states.search.found.nodes.items e.list.seen e.list.listed.items
      e.list.outcomes.items
  pub few : e.list.seen ≤ length e.states.search.found.nodes.items
  pub seen : 0 < e.states.search.level.first → e.list.seen ≡ length e.states.search.found.nodes.items
  pub levels : e.list.levels ≡ e.states.search.level.number

-- what is listed is right, complete up to a number of switches, and no more than may be; and if the search can't go on, why
pub record IsExploring (e : Exploring) : Type 0 where
  pub search : IsSearch e.states
  pub explored : AreExplored e.states.graph.setup e.states.graph.flats.items e.list.levels e.list.outcomes.items
  pub wanted : e.states.search.level.number ≤ suc e.most
  pub going : e.stop ≡ None → CanGoOn e
  pub few : IsFew e.states.graph.bounds (length e.list.outcomes.items)
  pub stopped : (why : Stop) → e.stop ≡ Some why
      → MayEnd e.states.graph.setup e.states.graph.flats.items e.states.graph.bounds e.list.outcomes.items why

-- the search has gone on: over the graph of the same guest, as far as before
pub record ExploringGoesOn (old new : Exploring) : Type 0 where
  pub is : IsExploring new
  pub setup : new.states.graph.setup ≡ old.states.graph.setup
  pub bounds : new.states.graph.bounds ≡ old.states.graph.bounds
  pub most : new.most ≡ old.most

-- more than so many levels are left to go over, or none where the search can't go on
abbrev pub levels_left : Option Stop → ℕ → ℕ
levels_left None most = suc most
levels_left (Some why) most = 0
