-- What `ir explore --until` finds, and what it writes.
use Rattle.std.specs.Prelude.{◌≡◌, ◌⊎◌, ℕ, suc, true, List, ◌++◌, length, Option, Some, None, Result, Ok, Err, String}
use Rattle.std.specs.String.{string_bytes}
use Rattle.ir_schedule.specs.Conditions.{Condition}
use Rattle.ir_search.specs.declared.search.Ended.{Ended}
use Rattle.ir_search.specs.declared.search.Ended.TheVariants.{Finished, Covered, Stopped}
use Rattle.ir_files.specs.Writers.{Writer, Failed}
use Rattle.ir_files.specs.declared.exit_status.ExitStatus.{ExitStatus}
use Rattle.ir_files.specs.declared.exit_status.ExitStatus.TheVariants.{NotSo, GaveUp}
use Rattle.ir_flat.specs.Flat.{tables}
use Rattle.ir_graph.specs.Outcomes.{run_outcome}
use Rattle.ir_graph.specs.Reached.{AllReached}
use Rattle.ir_graph.specs.Setup.{IsCountedOf}
use Rattle.ir_image.specs.Guest.{Guest, guest_at}
use Rattle.ir_order.specs.Recording.{IsPlannedInTurns, IsOfRun}
use Rattle.ir_order.specs.Spelling.{IsListOf}
use Rattle.ir_outcomes.specs.Explored.{ShowsState, AreExplored}
use Rattle.ir_outcomes.specs.Shown.{outcome_by, switches_by}
use Rattle.ir_outcomes.specs.declared.shown.Shown.{Shown}
use Rattle.ir_record.specs.Recording.{turns_of_items}
use Rattle.ir_record.specs.Refusing.{Turn}
use Rattle.ir_record_command.specs.Order.{order_of}
use Rattle.ir_record_command.specs.Plan.{Plan}
use Rattle.ir_runs.specs.Run.{Step}
use Rattle.ir_state_store.specs.Nodes.{SourcedFlat}
use Rattle.ir_thread.specs.State.{IsAllowed, most_budget}
use Rattle.ir_trace.specs.Recorded.{Recorded}
use Rattle.ir_explore.specs.Conditions.{fulfils_each, NeverFulfils, NeverWithin, NoneBefore, IsFirst}
use Rattle.ir_explore.specs.Faults.{HasNoGuest}
use Rattle.ir_explore.specs.Lines.{outcome_found_line}
use Rattle.ir_explore.specs.Texts.{Known, AreKnown, IsKnownText, objects_of, AreTexts, IsStopped}
use Rattle.ir_record_command.specs.Faults.{fault_status}
use Rattle.ir_record_command.specs.Stopping.{Tellings, Devices, devices, LeavesRecording}
use Rattle.ir_record_command.specs.declared.record_fault.RecordFault.{RecordFault}
use Rattle.ir_explore.specs.Stopping.{WritesOnly, TellsNoAnswer}
use Rattle.std.specs.Io.KnownBytes.{Appends}
use Rattle.ir_explore.specs.declared.fault.ExploreFault.{ExploreFault}
use Rattle.ir_explore.specs.declared.fault.ExploreFault.TheVariants.{Image, TooLarge, NoMem, Write}
use Rattle.ir_explore.specs.Plan.{ExplorePlan, setup_of}

-- how an outcome is recorded: with the highest budget, by a list, and as it was looked for
abbrev pub recording : ExplorePlan → Option (List ℕ) → Plan
recording plan list = record { order = list; budget = most_budget; random = plan.random; input = plan.input; profile = plan.profile }

-- A list spells the turns of a complete run of the guest, with these many switches, whose outcome fulfils each condition. The run is the one that
-- is recorded by the list: each call is answered by the plan's random words, its bytes and a count. No complete run with fewer switches fulfils
-- them, whatever its budget, but for runs in which a budget is spent or a log is full.
pub record IsHit (guest : Guest) (plan : ExplorePlan) (conditions : List Condition) (level : ℕ) (list : List ℕ) : Type 0 where
  pub turns : List Turn
  pub spelled : order_of (length guest.entries) list ≡ Some turns
  pub run : List Step
  pub counted : IsCountedOf (setup_of guest plan) most_budget run
  pub planned : IsPlannedInTurns guest (recording plan (Some list)) turns run
  pub fulfilled : fulfils_each guest conditions (outcome_by (setup_of guest plan) most_budget run) ≡ true
  pub switched : switches_by (setup_of guest plan) most_budget run ≡ level
  pub fewest : NeverWithin (setup_of guest plan) conditions level

-- The outcomes of the guest are printed up to the first that fulfils each condition, and then which one that is, with a list of its turns. Its run is
-- the one that is recorded.
pub record IsHitText (guest : Guest) (plan : ExplorePlan) (conditions : List Condition) (list text : List ℕ) : Type 0 where
  pub known : Known
  pub explored : AreExplored (setup_of guest plan) known.flats known.levels known.outcomes
  pub place : ℕ
  pub shown : Shown
  pub state : SourcedFlat
  pub at : ShowsState known.flats known.outcomes place shown state
  pub listed : IsListOf list (turns_of_items shown.turns.items)
  pub first : NoneBefore guest conditions known.flats known.outcomes place
  pub fulfils : fulfils_each guest conditions (run_outcome (tables state.flat)) ≡ true
  pub hit : IsHit guest plan conditions shown.level list
  pub same : outcome_by (setup_of guest plan) most_budget hit.run ≡ run_outcome (tables state.flat)
  pub lines : List ℕ
  pub texts : AreTexts (objects_of guest) known.flats known.outcomes (suc place) lines
  pub whole : text ≡ lines ++ outcome_found_line (suc place) shown.level list

-- What was looked for: the first outcome that fulfils each condition, among those that are known; and if there is none, the guest was explored as
-- the plan says.
pub record IsSought (guest : Guest) (plan : ExplorePlan) (conditions : List Condition) (known : Known) (found : Option ℕ) : Type 0 where
  pub explored : AreExplored (setup_of guest plan) known.flats known.levels known.outcomes
  pub reached : AllReached (setup_of guest plan) known.flats
  pub first : IsFirst guest conditions known.flats known.outcomes found
  pub whole : found ≡ None → AreKnown guest plan known

-- the exit status of a search that ended so, and found no outcome that fulfils the conditions
abbrev pub vain_status_of : Ended → ExitStatus
vain_status_of Finished = NotSo
vain_status_of Covered = NotSo
vain_status_of (Stopped why) = GaveUp

-- All outcomes that were found are printed, and how the search for them ended. None fulfils each condition: if the search is finished, no complete
-- run of the guest does, and however it ended none of fewer switches than it has gone over. Runs in which a budget is spent or a log is full aside.
-- The exit status tells whether it ended before it was over.
pub record IsVain (guest : Guest) (plan : ExplorePlan) (conditions : List Condition) (answered : ExitStatus) (text : List ℕ) : Type 0 where
  pub known : Known
  pub are : AreKnown guest plan known
  pub printed : (alone : ExitStatus) × IsKnownText guest known alone text
  pub none : NoneBefore guest conditions known.flats known.outcomes (length known.outcomes)
  pub never : known.ended ≡ Finished → NeverFulfils (setup_of guest plan) conditions
  pub within : NeverWithin (setup_of guest plan) conditions known.levels
  pub status : answered ≡ vain_status_of known.ended

-- or the search didn't begin
abbrev pub IsMissText : Guest → ExplorePlan → List Condition → ExitStatus → List ℕ → Type 0
IsMissText guest plan conditions answered text = IsVain guest plan conditions answered text ⊎ IsStopped guest plan answered text

-- the list of the outcome that was found, as its bytes, or the exit status where none was
abbrev pub found_bytes : {Z : Type 0} → Result (String Z) ExitStatus → Result (List ℕ) ExitStatus
found_bytes (Ok list) = Ok (string_bytes list)
found_bytes (Err answered) = Err answered

-- what is written about a guest: with the list of an outcome that fulfils each condition, or that there is none
abbrev pub IsUntilText : Guest → ExplorePlan → List Condition → Result (List ℕ) ExitStatus → List ℕ → Type 0
IsUntilText guest plan conditions (Ok list) text = IsHitText guest plan conditions list text
IsUntilText guest plan conditions (Err answered) text = IsMissText guest plan conditions answered text

-- the same of the guest that these bytes encode, which the profile allows
pub record IsUntil (image : List ℕ) (plan : ExplorePlan) (conditions : List Condition) (found : Result (List ℕ) ExitStatus) (text : List ℕ) : Type 0 where
  pub guest : Guest
  pub is : guest_at image ≡ Ok guest
  pub allowed : IsAllowed plan.profile guest
  pub says : IsUntilText guest plan conditions found text

-- what was found is recorded: the trace of its run, and what its threads printed
pub record IsOutcomeFinding (image : List ℕ) (plan : ExplorePlan) (conditions : List Condition) (list text : List ℕ) (trace : Recorded) (outputs : List (List ℕ)) : Type 0 where
  pub guest : Guest
  pub is : guest_at image ≡ Ok guest
  pub found : IsHitText guest plan conditions list text
  pub recorded : IsOfRun guest most_budget plan.profile found.hit.run trace outputs

-- Why there is no answer: the image is refused or its guest too large, as without conditions; or memory ran out, and nothing was written; or the
-- writer failed in it.
abbrev pub HasNoAnswer : ExploreFault → List ℕ → ExplorePlan → List Condition → Writer → Type 0
HasNoAnswer (Image e) image plan conditions w = HasNoGuest (Image e) image plan w
HasNoAnswer TooLarge image plan conditions w = HasNoGuest TooLarge image plan w
HasNoAnswer NoMem image plan conditions w = HasNoGuest NoMem image plan w
HasNoAnswer Write image plan conditions w = (found : Result (List ℕ) ExitStatus) × (text : List ℕ) × IsUntil image plan conditions found text × Failed w text

-- an outcome is told, and the recording of its run stopped
abbrev pub StopsAfterOutcome : {W P O : Type 0} → Tellings W P O → ExitStatus → List ℕ → ExplorePlan → List Condition → Devices W P O → Devices W P O → Writer → Type 0
StopsAfterOutcome {W} {P} {O} d status image plan conditions old new reports = (e : RecordFault) × (status ≡ fault_status e) × (text list : List ℕ) × (said : O)
    × IsUntil image plan conditions (Ok list) text × Appends (d.took old.lines) (d.took said) text
    × LeavesRecording d e image (recording plan (Some list)) (devices old.trace old.outputs said) new reports

-- a search for an outcome ended without a recording, with a status
abbrev pub StopsUntil : {W P O : Type 0} → Tellings W P O → ExitStatus → List ℕ → ExplorePlan → List Condition → Devices W P O → Devices W P O → Writer → Type 0 → Type 0
StopsUntil d status image plan conditions old new reports same = WritesOnly d (IsUntil image plan conditions (Err status)) old new same
    ⊎ (TellsNoAnswer d (λ e lines. HasNoAnswer e image plan conditions lines) status old new reports
    ⊎ StopsAfterOutcome d status image plan conditions old new reports)
