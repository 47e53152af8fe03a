-- Which outcomes of a guest another guest doesn't have.
use Rattle.std.specs.Prelude.{◌≡◌, ◌⊎◌, ℕ, zero, suc, Bool, true, false, List, [], ◌∷◌, ◌++◌, codes, decimal, length, flat_map, slice_get, Some, Result, Ok, Err}
use Rattle.ir_files.specs.declared.exit_status.ExitStatus.{ExitStatus}
use Rattle.ir_files.specs.declared.exit_status.ExitStatus.TheVariants as status
use Rattle.ir_graph.specs.Outcomes.{RunOutcome, run_outcome}
use Rattle.ir_image.specs.Guest.{Guest}
use Rattle.ir_flat.specs.Flat.{tables}
use Rattle.ir_outcomes.specs.Explored.{ShowsState}
use Rattle.ir_outcomes.specs.declared.shown.Shown.{Shown}
use Rattle.ir_search.specs.declared.search.Ended.{Ended}
use Rattle.ir_search.specs.declared.search.Ended.TheVariants.{Finished, Covered, Stopped}
use Rattle.ir_search.specs.declared.stop.Stop.{Stop}
use Rattle.ir_state_store.specs.Nodes.{SourcedFlat}
use Rattle.ir_explore.specs.Plan.{ExplorePlan}
use Rattle.ir_explore.specs.Texts.{Known, AreKnown, IsStopReason, IsOutcomeText, Objects, objects_of, end_line}
use Rattle.ir_within.specs.Aspects.{Aspects, seen}
use Rattle.ir_within.specs.declared.verdict.Verdict.{Verdict}
use Rattle.ir_within.specs.declared.verdict.Verdict.TheVariants.{Within, Outside, Unknown}

-- what a search for the outcomes of a guest came to, or why it didn't begin
abbrev pub Searched : Type 0
Searched = Result Known Stop

abbrev pub IsSearched : Guest → ExplorePlan → Searched → Type 0
IsSearched guest plan (Ok k) = AreKnown guest plan k
IsSearched guest plan (Err why) = IsStopReason guest plan why

-- the line that says how it ended, after the name of the guest
abbrev pub searched_line : Searched → List ℕ
searched_line (Ok k) = end_line k.ended k.levels (length k.outcomes) (length k.flats) k.hangs k.timed
searched_line (Err why) = end_line (Stopped why) 0 0 0 0 false

-- it found all outcomes
abbrev pub FoundAll : Searched → Type 0
FoundAll (Ok k) = k.ended ≡ Finished
FoundAll (Err why) = ⊥

-- some of the other guest's listed outcomes is the same in what counts
abbrev pub IsAmong : Aspects → Guest → Guest → Known → RunOutcome → Type 0
IsAmong a guest other k x = (j : ℕ) × (y : Shown) × (s : SourcedFlat) × ShowsState k.flats k.outcomes j y s
    × (seen a guest x ≡ seen a other (run_outcome (tables s.flat)))

-- of each listed outcome it is said whether it is outside: no listed outcome of the other guest is the same in what counts
pub record AreJudged (a : Aspects) (guest other : Guest) (k m : Known) (outside : List Bool) : Type 0 where
  pub count : length outside ≡ length k.outcomes
  pub among : (i : ℕ) (x : Shown) (s : SourcedFlat) → ShowsState k.flats k.outcomes i x s → slice_get outside i ≡ Some false
      → IsAmong a guest other m (run_outcome (tables s.flat))
  pub none : (i : ℕ) (x : Shown) (s : SourcedFlat) → ShowsState k.flats k.outcomes i x s → slice_get outside i ≡ Some true
      → IsAmong a guest other m (run_outcome (tables s.flat)) → ⊥

-- how many are outside
abbrev pub marked_count : List Bool → ℕ
marked_count [] = 0
marked_count (true ∷ outside) = suc (marked_count outside)
marked_count (false ∷ outside) = marked_count outside

-- the lines of the first outcomes that are outside, each with its number among all
pub record AreMarkedTexts (o : Objects) (k : Known) (outside : List Bool) (many : ℕ) (text : List ℕ) : Type 0 where
  pub texts : List (List ℕ)
  pub count : length texts ≡ many
  pub each : (i : ℕ) (x : Shown) (s : SourcedFlat) (own : List ℕ) → ShowsState k.flats k.outcomes i x s → slice_get texts i ≡ Some own
      → slice_get outside i ≡ Some true → IsOutcomeText o s.flat (suc i) x own
  pub others : (i : ℕ) (own : List ℕ) → slice_get texts i ≡ Some own → slice_get outside i ≡ Some false → own ≡ []
  pub joined : text ≡ flat_map (λ own. own) texts

-- the last line
abbrev pub verdict_line : Verdict → List ℕ
verdict_line Within = codes "within\n"
verdict_line (Outside many) = codes "outside " ++ (decimal many ++ 10 ∷ [])
verdict_line Unknown = codes "unknown\n"

abbrev pub verdict_status : Verdict → ExitStatus
verdict_status Within = status.Done
verdict_status (Outside many) = status.NotSo
verdict_status Unknown = status.GaveUp

-- where so many of the listed outcomes are outside, by how the search for them ended
abbrev pub verdict_of : Ended → ℕ → Verdict
verdict_of ended (suc n) = Outside (suc n)
verdict_of Finished zero = Within
verdict_of Covered zero = Unknown
verdict_of (Stopped why) zero = Unknown

-- how both searches ended, and what is known
abbrev pub ending : Searched → Searched → Verdict → List ℕ
ending image other verdict =
    codes "image " ++ (searched_line image ++ (codes "other " ++ (searched_line other ++ verdict_line verdict)))

-- the other guest's outcomes aren't all known: nothing else is looked for
pub record IsOtherUnknown (other : Guest) (plan : ExplorePlan) (verdict : Verdict) (text : List ℕ) : Type 0 where
  pub searched : Searched
  pub is : IsSearched other plan searched
  pub unfinished : FoundAll searched → ⊥
  pub unknown : verdict ≡ Unknown
  pub whole : text ≡ codes "other " ++ (searched_line searched ++ verdict_line Unknown)

-- they are, and the search for those of the guest didn't begin
pub record IsImageUnknown (guest other : Guest) (plan : ExplorePlan) (verdict : Verdict) (text : List ℕ) : Type 0 where
  pub known : Known
  pub are : AreKnown other plan known
  pub finished : known.ended ≡ Finished
  pub why : Stop
  pub reason : IsStopReason guest plan why
  pub unknown : verdict ≡ Unknown
  pub whole : text ≡ ending (Err why) (Ok known) Unknown

-- they are, and those of the guest that were found are compared: each that the other guest hasn't is printed
pub record IsCompared (a : Aspects) (guest other : Guest) (plan : ExplorePlan) (verdict : Verdict) (text : List ℕ) : Type 0 where
  pub known : Known
  pub are : AreKnown guest plan known
  pub other_known : Known
  pub other_are : AreKnown other plan other_known
  pub finished : other_known.ended ≡ Finished
  pub outside : List Bool
  pub judged : AreJudged a guest other known other_known outside
  pub lines : List ℕ
  pub texts : AreMarkedTexts (objects_of guest) known outside (length known.outcomes) lines
  pub found : verdict ≡ verdict_of known.ended (marked_count outside)
  pub whole : text ≡ lines ++ ending (Ok known) (Ok other_known) verdict

-- the answer to whether each outcome of the guest is one of the other's, in what counts
abbrev pub IsWithinAnswer : Aspects → Guest → Guest → ExplorePlan → Verdict → List ℕ → Type 0
IsWithinAnswer a guest other plan verdict text =
    IsOtherUnknown other plan verdict text ⊎ (IsImageUnknown guest other plan verdict text ⊎ IsCompared a guest other plan verdict text)
