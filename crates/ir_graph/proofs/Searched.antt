-- A search over the graph of a guest, level by level.
use Rattle.std.proofs.Common.{◌≡◌, ◌↔◌, ℕ, Bool, true, Option, List, length, subst}
use Rattle.std.specs.Global.{Vec}
use Rattle.std.specs.Prelude.{Result, Ok, Err, IfOk, IfErr}
use Rattle.ir_search.specs.declared.origin.Origin.{Origin}
use Rattle.ir_search.specs.declared.origin.Refusal.{Refusal}
use Rattle.ir_search.specs.Levels.{AreAsked, AreGoneOver, Covered}
use Rattle.ir_search.specs.Searching.{HasGone}
use Rattle.ir_search.proofs.CallerLemmas.{covered_below_gone_over}
use Rattle.ir_state_store.specs.Nodes.{SourcedFlat}
use Rattle.ir_graph.specs.Setup.{Setup}
use Rattle.ir_graph.specs.Graph.{IsGraph}
use Rattle.ir_graph.specs.Hangs.{AllStand, AreWays, AreMarked}
use Rattle.ir_graph.specs.Notes.{noted_by}
use Rattle.ir_graph.specs.Outcomes.{AllListed}
use Rattle.ir_graph.specs.Searched.{AreSearched}
use Rattle.ir_graph.specs.Standing.{AllFound}
use Rattle.ir_graph.specs.Times.{HasTimedRun, KnowsTimes}
use Rattle.ir_graph.proofs.Hangs.{are_marked, all_found, all_stand}
use Rattle.ir_graph.proofs.Listed.{all_listed_if_all_asked, covered_within_listed}
use Rattle.ir_graph.proofs.Standing.{within_found_if_covered}
use Rattle.ir_graph.proofs.Times.{is_timed_exactly_if_known}

module _ (x : Setup) (flats : List SourcedFlat) (rows tries : List (Vec (Option (Option ℕ)))) (origins : List Origin)
    (refusals : List Refusal) (threads levels : ℕ) (graph : IsGraph x flats (noted_by rows tries) (length rows))
    (same : threads ≡ length rows) (has : HasGone (noted_by rows tries) threads (length flats) origins refusals levels) where
  pub searched_by : AreSearched x flats origins levels
  searched_by = record {
    states = graph.nodes;
    reached = graph.reached;
    few = has.few;
    rising = has.rising;
    most = has.most;
    within = λ c less.
        covered_within_listed x flats (noted_by rows tries) (length rows) graph origins has.first has.few c
        (subst (λ z. Covered (noted_by rows tries) z origins c) same (covered_below_gone_over (noted_by rows tries) threads origins levels c less has.gone));
    found = λ c less.
        within_found_if_covered x flats (noted_by rows tries) (length rows) graph origins has.first has.few c
        (subst (λ z. Covered (noted_by rows tries) z origins c) same (covered_below_gone_over (noted_by rows tries) threads origins levels c less has.gone));
  }

  module _ (all : length origins ≡ length flats) (asked : AreAsked (noted_by rows tries) threads (length flats)) where
    asked_each : AreAsked (noted_by rows tries) (length rows) (length flats)
    asked_each = subst (λ z. AreAsked (noted_by rows tries) z (length flats)) same asked

    pub listed_by : AllListed x flats
    listed_by = all_listed_if_all_asked x flats (noted_by rows tries) (length rows) graph origins refusals has.reached all asked_each

    pub found_by : AllFound x flats
    found_by = all_found x flats (noted_by rows tries) (length rows) graph origins refusals has.reached all asked_each

    pub stand_by : AllStand x flats origins
    stand_by =
        all_stand x flats (noted_by rows tries) (length rows) graph origins refusals has.reached all asked_each levels
        (subst (λ z. AreGoneOver (noted_by rows tries) z origins levels) same has.gone) has.most has.first

    pub timed_by : (timed : Bool) → KnowsTimes x flats (noted_by rows tries) timed → (timed ≡ true) ↔ HasTimedRun x
    timed_by timed known = is_timed_exactly_if_known x flats (noted_by rows tries) (length rows) graph asked_each timed known

    pub marked_by : (marks : List Bool) → AreWays (noted_by rows tries) (length rows) flats marks → AreMarked flats marks
    marked_by marks ways =
        are_marked x flats (noted_by rows tries) (length rows) graph origins refusals has.reached all asked_each marks ways

-- what follows from what is so of an error
pub if_err_of_implied : {A E : Type 0} {P Q : E → Type 0} (r : Result A E) → ((e : E) → P e → Q e) → IfErr r P → IfErr r Q
if_err_of_implied (Ok x) f p = tt
if_err_of_implied (Err e) f p = f e p

-- what follows from what is so of a value
pub if_ok_of_implied : {A E : Type 0} {P Q : A → Type 0} (r : Result A E) → ((x : A) → P x → Q x) → IfOk r P → IfOk r Q
if_ok_of_implied (Ok x) f p = f x p
if_ok_of_implied (Err e) f p = tt
