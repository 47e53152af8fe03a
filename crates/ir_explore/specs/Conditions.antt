-- What conditions say of outcomes.
use Rattle.std.specs.Prelude.{◌≡◌, ℕ, zero, suc, ◌<◌, Bool, true, false, List, [], ◌∷◌, length, Option, Some, None}
use Rattle.std.specs.List.{list_all}
use Rattle.ir_schedule.specs.Conditions as conditions
use Rattle.ir_schedule.specs.Conditions.{Condition, fulfils}
use Rattle.ir_flat.specs.Flat.{Flat, cell_of, tables}
use Rattle.ir_state_store.specs.Nodes.{SourcedFlat}
use Rattle.ir_graph.specs.Outcomes.{RunOutcome, run_outcome}
use Rattle.ir_image.specs.Guest.{Guest, most_object_words, object_count}
use Rattle.ir_graph.specs.Setup.{Setup, IsCountedOf}
use Rattle.ir_outcomes.specs.Explored.{IsOutcomeOf, ShowsState}
use Rattle.ir_outcomes.specs.Shown.{outcome_by, switches_by}
use Rattle.ir_outcomes.specs.declared.shown.Shown.{Shown}
use Rattle.ir_runs.specs.Run.{Step}

-- what f gives of the first n numbers
abbrev pub first_of : {A : Type 0} → ℕ → (ℕ → A) → List A
first_of zero f = []
first_of (suc n) f = f 0 ∷ first_of n (λ k. f (suc k))

-- an outcome of the guest as conditions see it: of its threads and objects alone
abbrev pub seen_outcome : Guest → RunOutcome → conditions.EndState
seen_outcome guest x = record {
  ends = first_of (length guest.entries) x.ends;
  outputs = first_of (length guest.entries) x.outputs;
  words = first_of (object_count guest) (λ o. first_of most_object_words (x.words o));
}

-- whether an outcome of the guest fulfils each condition
abbrev pub fulfils_each : Guest → List Condition → RunOutcome → Bool
fulfils_each guest conditions x = list_all (λ c. fulfils c (seen_outcome guest x)) conditions

-- no complete run of the guest comes to an outcome that does, whatever its budget; runs in which a budget is spent or a log is full aside
abbrev pub NeverFulfils : Setup → List Condition → Type 0
NeverFulfils setup conditions = (x : RunOutcome) → IsOutcomeOf setup x → fulfils_each setup.guest conditions x ≡ false

-- no such run of fewer switches than so many does
abbrev pub NeverWithin : Setup → List Condition → ℕ → Type 0
NeverWithin setup conditions most = (budget : ℕ) (steps : List Step) → IsCountedOf setup budget steps → switches_by setup budget steps < most
    → fulfils_each setup.guest conditions (outcome_by setup budget steps) ≡ false

-- none of the first n that are listed does
abbrev pub NoneBefore : Guest → List Condition → List SourcedFlat → List Shown → ℕ → Type 0
NoneBefore guest conditions flats outcomes n = (i : ℕ) (x : Shown) (s : SourcedFlat) → i < n → ShowsState flats outcomes i x s
    → fulfils_each guest conditions (run_outcome (tables s.flat)) ≡ false

-- this one that is listed does
abbrev pub IsFulfilled : Guest → List Condition → List SourcedFlat → List Shown → ℕ → Type 0
IsFulfilled guest conditions flats outcomes i = (x : Shown) × (s : SourcedFlat) × ShowsState flats outcomes i x s
    × (fulfils_each guest conditions (run_outcome (tables s.flat)) ≡ true)

-- the first that does, if any of the listed does
abbrev pub IsFirst : Guest → List Condition → List SourcedFlat → List Shown → Option ℕ → Type 0
IsFirst guest conditions flats outcomes None = NoneBefore guest conditions flats outcomes (length outcomes)
IsFirst guest conditions flats outcomes (Some i) = NoneBefore guest conditions flats outcomes i × IsFulfilled guest conditions flats outcomes i

-- Whether a condition holds of threads and objects is decided by their outcome.
abbrev pub OutcomesDecide : Type 0
OutcomesDecide = (guest : Guest) (c : Condition) (f : Flat) → length f.threads ≡ length guest.entries → length f.objects ≡ object_count guest
    → ((o : ℕ) → o < length f.objects → length (cell_of f o).words ≡ most_object_words)
    → fulfils c (conditions.end_state f) ≡ fulfils c (seen_outcome guest (run_outcome (tables f)))
