-- What the answers mean for the runs of the guests.
use Rattle.std.specs.Prelude.{◌≡◌, ◌≤◌, ℕ, Bool, true, List, Some, slice_get}
use Rattle.ir_graph.specs.Outcomes.{RunOutcome, run_outcome}
use Rattle.ir_image.specs.Guest.{Guest}
use Rattle.ir_graph.specs.Setup.{IsCountedOf}
use Rattle.ir_outcomes.specs.Explored.{IsOutcomeOf, ShowsState}
use Rattle.ir_outcomes.specs.Shown.{outcome_by, switches_by}
use Rattle.ir_outcomes.specs.declared.shown.Shown.{Shown}
use Rattle.ir_runs.specs.Run.{Step}
use Rattle.ir_search.specs.declared.search.Ended.TheVariants.{Finished}
use Rattle.ir_state_store.specs.Nodes.{SourcedFlat}
use Rattle.ir_flat.specs.Flat.{tables}
use Rattle.ir_thread.specs.State.{most_budget}
use Rattle.ir_trace.specs.Recorded.{Recorded}
use Rattle.ir_explore.specs.Plan.{ExplorePlan, setup_of}
use Rattle.ir_explore.specs.Recorded.{IsOfOutcome}
use Rattle.ir_explore.specs.Texts.{Known, AreKnown}
use Rattle.ir_within.specs.Aspects.{Aspects, seen}
use Rattle.ir_within.specs.Classes.{AreClasses}
use Rattle.ir_within.specs.Faults.{Comparison}
use Rattle.ir_within.specs.Outside.{IsOutsideRecorded}
use Rattle.ir_within.specs.Within.{IsWithinAnswer}
use Rattle.ir_within.specs.declared.verdict.Verdict.TheVariants.{Within, Outside}

-- some complete run of the other guest comes to what is the same in what counts; runs in which a budget is spent or a log is full aside
abbrev pub HasLike : Aspects → Guest → Guest → ExplorePlan → RunOutcome → Type 0
HasLike a guest other plan x = (y : RunOutcome) × IsOutcomeOf (setup_of other plan) y × (seen a guest x ≡ seen a other y)

-- the law of `within`: each outcome of the guest is one of the other's, in what counts
abbrev pub WithinIsEach : Type 0
WithinIsEach = (a : Aspects) (guest other : Guest) (plan : ExplorePlan) (text : List ℕ) → IsWithinAnswer a guest other plan Within text
    → (x : RunOutcome) → IsOutcomeOf (setup_of guest plan) x → HasLike a guest other plan x

-- the law of `outside`: some outcome of the guest is none of the other's, in what counts
abbrev pub OutsideIsSome : Type 0
OutsideIsSome = (a : Aspects) (guest other : Guest) (plan : ExplorePlan) (many : ℕ) (text : List ℕ)
    → IsWithinAnswer a guest other plan (Outside many) text
    → (x : RunOutcome) × IsOutcomeOf (setup_of guest plan) x × (HasLike a guest other plan x → ⊥)

-- the first of a class is the same in what counts, and it is marked
abbrev pub HasFirst : Aspects → Guest → Known → List Bool → RunOutcome → Type 0
HasFirst a guest k firsts x = (i : ℕ) × (y : Shown) × (s : SourcedFlat) × ShowsState k.flats k.outcomes i y s × (slice_get firsts i ≡ Some true)
    × (seen a guest x ≡ seen a guest (run_outcome (tables s.flat)))

-- the law of classes: once the search is finished, the class of each outcome of the guest has its first one among those that are printed
abbrev pub EachClassIsListed : Type 0
EachClassIsListed = (a : Aspects) (guest : Guest) (plan : ExplorePlan) (k : Known) (firsts : List Bool) → AreKnown guest plan k → AreClasses a guest k firsts
    → k.ended ≡ Finished → (x : RunOutcome) → IsOutcomeOf (setup_of guest plan) x → HasFirst a guest k firsts x

-- the law of its switches: once the search is finished, no complete run that comes to an outcome of the class has fewer than the one that is printed
abbrev pub ClassHasFewest : Type 0
ClassHasFewest = (a : Aspects) (guest : Guest) (plan : ExplorePlan) (k : Known) (firsts : List Bool) → AreKnown guest plan k → AreClasses a guest k firsts
    → k.ended ≡ Finished → (i : ℕ) (y : Shown) (s : SourcedFlat) → ShowsState k.flats k.outcomes i y s → slice_get firsts i ≡ Some true
    → (budget : ℕ) (steps : List Step) → IsCountedOf (setup_of guest plan) budget steps
    → seen a guest (outcome_by (setup_of guest plan) budget steps) ≡ seen a guest (run_outcome (tables s.flat))
    → y.level ≤ switches_by (setup_of guest plan) budget steps

-- the law of what is recorded: the trace is of a run with an outcome of the guest, which is none of the other's, in what counts
abbrev pub RecordedIsOutside : Type 0
RecordedIsOutside = (c : Comparison) (list text : List ℕ) (trace : Recorded) (outputs : List (List ℕ)) (r : IsOutsideRecorded c list text trace outputs)
    → (x : RunOutcome) × IsOfOutcome (setup_of r.found.guest c.plan) most_budget trace outputs x × IsOutcomeOf (setup_of r.found.guest c.plan) x
    × (HasLike c.aspects r.found.guest r.found.other c.plan x → ⊥)
