-- Why a search for outcomes ends before it is over.
use Rattle.std.proofs.Common.{◌≡◌, ℕ, suc, List, [], ◌∷◌, ◌++◌, Some, length, arith}
use Rattle.std.specs.Prelude.{slice_get}
use Rattle.ir_search.specs.declared.origin.Origin.{Origin}
use Rattle.ir_search.specs.declared.stop.Stop.{Stop}
use Rattle.ir_search.specs.declared.stop.Stop.TheVariants.{Nodes, Private, Log, World, Memory, Time, Outcomes}
use Rattle.ir_search.proofs.CallerLemmas.{slice_get_append_kept, slice_get_some_below}
use Rattle.ir_lemmas.proofs.CallerLemmas.{added_element_is_last}
use Rattle.ir_record.specs.Recording.{turns_of_items}
use Rattle.ir_thread.specs.State.{most_budget}
use Rattle.ir_flat.specs.Flat.{tables}
use Rattle.ir_state_store.specs.Nodes.{SourcedFlat}
use Rattle.ir_graph.specs.Listing.{AreOutcomes}
use Rattle.ir_graph.specs.Outcomes.{run_outcome}
use Rattle.ir_graph.specs.Setup.{Setup}
use Rattle.ir_graph.specs.Stops.{MayStop}
use Rattle.ir_graph.specs.declared.bounds.Bounds.{Bounds}
use Rattle.ir_outcomes.specs.Explored.{HasFurther, MayEnd}
use Rattle.ir_outcomes.specs.Exploring.{HasShown}
use Rattle.ir_outcomes.specs.Shown.{IsShown}
use Rattle.ir_outcomes.specs.declared.shown.Shown.{Shown}

-- for what a search over the states stops, that for outcomes ends
pub may_end_by_stop : (setup : Setup) (flats : List SourcedFlat) (bounds : Bounds) (outcomes : List Shown) (why : Stop) → MayStop setup flats bounds why
    → MayEnd setup flats bounds outcomes why
may_end_by_stop setup flats bounds outcomes Nodes may = may
may_end_by_stop setup flats bounds outcomes (Private t) may = may
may_end_by_stop setup flats bounds outcomes (Log t) may = may
may_end_by_stop setup flats bounds outcomes (World t) may = may
may_end_by_stop setup flats bounds outcomes Memory may = may
may_end_by_stop setup flats bounds outcomes Time may = may
may_end_by_stop setup flats bounds outcomes Outcomes may = absurd may.stops

-- a node whose outcome is new comes to another than those that are listed
pub further_if_new : (setup : Setup) (flats : List SourcedFlat) (origins : List Origin) (node : ℕ) (listed : List ℕ) (outcomes : List Shown) (x : Shown)
    (s : SourcedFlat) → HasShown setup flats origins node listed outcomes → AreOutcomes flats (suc node) (listed ++ node ∷ [])
    → slice_get flats node ≡ Some s → IsShown setup s x.level (turns_of_items x.turns.items) → HasFurther setup flats outcomes
further_if_new setup flats origins node listed outcomes x s has different at shown = (
  run_outcome (tables s.flat),
  (most_budget, shown.steps, shown.counted, shown.same),
  λ is.
      let stands = has.shown.node is.0 is.1 is.3.0 in
      let less = slice_get_some_below listed is.0 is.1.node stands in
      let last : is.0 ≡ length listed =
      different.different is.0 (length listed) is.1.node node is.2 s (slice_get_append_kept listed (node ∷ []) is.0 is.1.node stands)
      (added_element_is_last listed node) is.3.1 at is.4 in
      omega (arith, less, last),
)
