-- What `ir explore` writes.
use Rattle.std.specs.Prelude.{◌≡◌, ◌⊎◌, ℕ, zero, suc, Bool, true, false, Option, Some, None, List, [], ◌++◌, length, take, flat_map, if◌then◌else◌, nat_eq, slice_get}
use Rattle.std.specs.List.{slice_index_or}
use Rattle.std.specs.Cmp.Lexicographic.{pointwise}
use Rattle.ir_search.specs.declared.search.Ended.{Ended}
use Rattle.ir_search.specs.declared.search.Ended.TheVariants.{Finished, Covered, Stopped}
use Rattle.ir_search.specs.declared.stop.Stop.{Stop}
use Rattle.ir_search.specs.declared.stop.Stop.TheVariants.{Memory}
use Rattle.ir_files.specs.declared.exit_status.ExitStatus.{ExitStatus}
use Rattle.ir_files.specs.declared.exit_status.ExitStatus.TheVariants as status
use Rattle.ir_flat.specs.Flat.{Flat, idle, start_cells}
use Rattle.ir_graph.specs.Nodes.{AreNodes}
use Rattle.ir_graph.specs.Reached.{AllReached}
use Rattle.ir_graph.specs.Setup.{Setup}
use Rattle.ir_graph.specs.Standing.{AllFound, NeedsSwitches}
use Rattle.ir_graph.specs.Stops.{IsStop}
use Rattle.ir_graph.specs.Times.{HasTimedRun}
use Rattle.ir_image.specs.Guest.{Guest, object_count, object_words}
use Rattle.ir_object.specs.Cell.{Cell}
use Rattle.ir_object.specs.Empty.{empty}
use Rattle.ir_order.specs.Spelling.{IsListOf}
use Rattle.ir_outcomes.specs.Explored.{ShowsState, AreExplored, AreAll, AreHangs, IsFew, MayEnd}
use Rattle.ir_outcomes.specs.declared.explored.Explored.{Explored}
use Rattle.ir_outcomes.specs.declared.shown.Shown.{Shown}
use Rattle.ir_record.specs.Recording.{turns_of_items}
use Rattle.ir_thread.specs.State.{ThreadState}
use Rattle.ir_state_store.specs.Nodes.{SourcedFlat}
use Rattle.ir_explore.specs.declared.started.Started.{Started}
use Rattle.ir_explore.specs.Plan.{ExplorePlan, setup_of}
use Rattle.ir_explore.specs.Lines.{outcome_line, outcome_thread_text, outcome_object_line, hang_line, ended_text, counts_text, hangs_text, clock_text, search_line}

-- the lines of the first n threads
abbrev pub outcome_threads_text : List ThreadState → ℕ → List ℕ
outcome_threads_text threads zero = []
outcome_threads_text threads (suc n) = outcome_threads_text threads n ++ outcome_thread_text n (slice_index_or threads n idle)

-- the line of an object whose words aren't its first ones
abbrev pub outcome_object_text : ℕ → List ℕ → List ℕ → List ℕ
outcome_object_text o first words = if pointwise nat_eq words first then [] else outcome_object_line o words

-- the same of the first n objects, of so many words each
abbrev pub objects_text : ℕ → List Cell → List Cell → ℕ → List ℕ
objects_text words first now zero = []
objects_text words first now (suc n) =
    objects_text words first now n
    ++ outcome_object_text n (take words (slice_index_or first n empty).words) (take words (slice_index_or now n empty).words)

-- the objects of a guest at first, and how many words each has
pub record Objects : Type 0 where
  pub words : ℕ
  pub first : List Cell

abbrev pub objects_of : Guest → Objects
objects_of guest = record { words = object_words guest; first = start_cells guest 0 (object_count guest) }

-- those that a program has in hand
abbrev pub objects_in : Started → Objects
objects_in s = record { words = s.words; first = s.first.now }

-- the lines of an outcome, by its number
abbrev pub IsOutcomeText : Objects → Flat → ℕ → Shown → List ℕ → Type 0
IsOutcomeText o f number x text = (list : List ℕ) × IsListOf list (turns_of_items x.turns.items)
    × (text ≡ outcome_line number x.level list ++ (outcome_threads_text f.threads (length f.threads) ++ objects_text o.words o.first f.objects (length f.objects)))

-- the lines of all outcomes
pub record AreTexts (o : Objects) (flats : List SourcedFlat) (outcomes : List Shown) (many : ℕ) (text : List ℕ) : Type 0 where
  pub texts : List (List ℕ)
  pub count : length texts ≡ many
  pub each : (i : ℕ) (x : Shown) (s : SourcedFlat) (own : List ℕ) → ShowsState flats outcomes i x s → slice_get texts i ≡ Some own
      → IsOutcomeText o s.flat (suc i) x own
  pub joined : text ≡ flat_map (λ own. own) texts

-- the outcomes of a guest that were found so far are printed
pub record TellsPart (setup : Setup) (text : List ℕ) : Type 0 where
  pub flats : List SourcedFlat
  pub outcomes : List Shown
  -- those of runs with fewer switches are all among them
  pub levels : ℕ
  pub explored : AreExplored setup flats levels outcomes
  pub texts : AreTexts (objects_of setup.guest) flats outcomes (length outcomes) text

-- the exit status of a search that ended so, and knows so many states that can't be brought to an end
abbrev pub search_status : Ended → ℕ → ExitStatus
search_status Finished zero = status.Done
search_status Finished (suc hangs) = status.Hangs
search_status Covered hangs = status.Done
search_status (Stopped why) hangs = status.GaveUp

-- the line of a hang, if one is known
abbrev pub IsHangText : Option Shown → List ℕ → Type 0
IsHangText None text = text ≡ []
IsHangText (Some x) text = (list : List ℕ) × IsListOf list (turns_of_items x.turns.items) × (text ≡ hang_line x.level list)

-- the last line: how the search ended, how many outcomes, states and hangs there are, and whether some call for the time was answered
abbrev pub end_line : Ended → ℕ → ℕ → ℕ → ℕ → Bool → List ℕ
end_line ended levels outcomes states hangs timed =
    search_line (ended_text ended levels) (counts_text outcomes states) (hangs_text ended hangs) (clock_text timed)

-- why there is nothing to print of a search: it didn't begin
abbrev pub IsStopReason : Guest → ExplorePlan → Stop → Type 0
IsStopReason guest plan why = (why ≡ Memory) ⊎ IsStop (setup_of guest plan) plan.bounds.private why

-- what was found out about a guest
pub record Known : Type 0 where
  -- its states
  pub flats : List SourcedFlat
  -- its outcomes
  pub outcomes : List Shown
  -- those of runs with fewer switches are all among them
  pub levels : ℕ
  -- how the search for them ended
  pub ended : Ended
  -- how many states can't be brought to an end
  pub hangs : ℕ
  -- a run that leads to one of them
  pub hang : Option Shown
  -- whether some run that counts answers a call for the time
  pub timed : Bool

abbrev pub known_of : Explored → Known
known_of e = record {
  flats = e.states.graph.flats.items;
  outcomes = e.outcomes.items;
  levels = e.levels;
  ended = e.ended;
  hangs = e.hangs;
  hang = e.hang;
  timed = e.states.graph.timed;
}

-- It is so. The states are different ones of the guest at rest, to each of which a run leads. Once the search is finished, they and the outcomes are
-- all, and so many states can't be brought to an end: where there are any, a run that hangs is known too, and only there. Where the switches that
-- were wanted are covered, some state needs as many. There are no more outcomes than the plan says, and the search stopped early only for what it
-- says. Some run of the guest that counts answers a call for the time where that is said, and, once the search is finished, only there.
pub record AreKnown (guest : Guest) (plan : ExplorePlan) (k : Known) : Type 0 where
  pub explored : AreExplored (setup_of guest plan) k.flats k.levels k.outcomes
  pub all : k.ended ≡ Finished → AreAll (setup_of guest plan) k.flats k.outcomes
  pub nodes : AreNodes k.flats
  pub reached : AllReached (setup_of guest plan) k.flats
  pub found : k.ended ≡ Finished → AllFound (setup_of guest plan) k.flats
  pub hanging : k.ended ≡ Finished → AreHangs (setup_of guest plan) k.flats k.hangs k.hang
  pub unknown : (k.ended ≡ Finished → ⊥) → k.hang ≡ None
  pub timed : k.timed ≡ true → HasTimedRun (setup_of guest plan)
  pub untimed : k.ended ≡ Finished → HasTimedRun (setup_of guest plan) → k.timed ≡ true
  pub covered : k.ended ≡ Covered → k.levels ≡ suc plan.switches
  pub left : k.ended ≡ Covered → (v : ℕ) × (s : SourcedFlat) × (slice_get k.flats v ≡ Some s) × NeedsSwitches (setup_of guest plan) s plan.switches
  pub few : IsFew plan.bounds (length k.outcomes)
  pub stopped : (why : Stop) → k.ended ≡ Stopped why → MayEnd (setup_of guest plan) k.flats plan.bounds k.outcomes why

-- a hang is printed if one is known, and then how the search ended
pub record IsEnding (k : Known) (answered : ExitStatus) (text : List ℕ) : Type 0 where
  pub hang_lines : List ℕ
  pub hang_text : IsHangText k.hang hang_lines
  pub whole : text ≡ hang_lines ++ end_line k.ended k.levels (length k.outcomes) (length k.flats) k.hangs k.timed
  pub status : answered ≡ search_status k.ended k.hangs

-- it is printed: the outcomes of the guest, a hang if one is known, and how the search for them ended
pub record IsKnownText (guest : Guest) (k : Known) (answered : ExitStatus) (text : List ℕ) : Type 0 where
  pub lines : List ℕ
  pub texts : AreTexts (objects_of guest) k.flats k.outcomes (length k.outcomes) lines
  pub last_lines : List ℕ
  pub ending : IsEnding k answered last_lines
  pub whole : text ≡ lines ++ last_lines

-- what is known of the outcomes of the guest is printed
abbrev pub TellsKnown : Guest → ExplorePlan → ExitStatus → List ℕ → Type 0
TellsKnown guest plan answered text = (k : Known) × AreKnown guest plan k × IsKnownText guest k answered text

-- no outcome is printed, and why
pub record IsStopped (guest : Guest) (plan : ExplorePlan) (answered : ExitStatus) (text : List ℕ) : Type 0 where
  pub why : Stop
  pub reason : IsStopReason guest plan why
  pub whole : text ≡ end_line (Stopped why) 0 0 0 0 false
  pub status : answered ≡ status.GaveUp

-- the answer about a guest
abbrev pub IsAnswerAbout : Guest → ExplorePlan → ExitStatus → List ℕ → Type 0
IsAnswerAbout guest plan answered text = TellsKnown guest plan answered text ⊎ IsStopped guest plan answered text
