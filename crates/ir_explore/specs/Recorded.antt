-- What recordings of a guest come to whose outcomes are all listed.
use Rattle.std.specs.Prelude.{◌≡◌, ◌≢◌, ◌<◌, ◌++◌, ℕ, List, false, length, ⊤, Ok}
use Rattle.std.specs.List.{AllByRecursion}
use Rattle.ir_schedule.specs.Conditions.{Condition}
use Rattle.ir_search.specs.declared.search.Ended.TheVariants.{Finished}
use Rattle.ir_graph.specs.Hangs.{IsHangOf}
use Rattle.ir_graph.specs.Outcomes.{RunOutcome}
use Rattle.ir_graph.specs.Setup.{Setup, IsCountedOf}
use Rattle.ir_graph.specs.Times.{HasTimedRun}
use Rattle.ir_image.specs.Guest.{Guest, guest_at}
use Rattle.ir_log.specs.declared.event.Event.{Event}
use Rattle.ir_log.specs.declared.event.Event.TheVariants.{Answer, Read, Write, Try}
use Rattle.ir_order.specs.Recording.{IsOfRun}
use Rattle.ir_outcomes.specs.Explored.{IsIn, IsOutcomeOf}
use Rattle.ir_outcomes.specs.Shown.{outcome_by}
use Rattle.ir_record_command.specs.Plan.{Plan}
use Rattle.ir_record_command.specs.Recording.{IsRecordedOf}
use Rattle.ir_runs.specs.Run.{Step}
use Rattle.ir_runs.specs.declared.env_kind.EnvKind.TheVariants.{Clock, Random, Input}
use Rattle.ir_thread.specs.State.{end_number}
use Rattle.ir_trace.specs.Recorded.{Recorded, recorded_thread}
use Rattle.ir_explore.specs.Conditions.{fulfils_each, NeverFulfils}
use Rattle.ir_explore.specs.Plan.{ExplorePlan, setup_of}
use Rattle.ir_explore.specs.Texts.{Known, AreKnown}

-- the event is no answer to a call for the time
abbrev pub IsUntimed : Event → Type 0
IsUntimed (Answer Clock value) = ⊥
IsUntimed (Answer Random value) = ⊤
IsUntimed (Answer Input value) = ⊤
IsUntimed (Read object version) = ⊤
IsUntimed (Write object version readers) = ⊤
IsUntimed (Try object) = ⊤

-- of the n threads none was answered a call for the time
abbrev pub AreUntimed : ℕ → Recorded → Type 0
AreUntimed n trace = (t : ℕ) → t < n → AllByRecursion IsUntimed (recorded_thread trace t).events

-- no end of the n threads is a spent budget's, 13, or a full log's, 14
abbrev pub AreUncut : ℕ → Recorded → Type 0
AreUncut n trace = (t : ℕ) → t < n → (end_number (recorded_thread trace t).end ≢ 13) × (end_number (recorded_thread trace t).end ≢ 14)

-- The trace and the outputs were recorded of an image's guest, by threads or by a list, with these calls, this random number and this input. No budget
-- was spent and no log was full.
pub record IsUncutRecording (setup : Setup) (image : List ℕ) (plan : Plan) (trace : Recorded) (outputs : List (List ℕ)) : Type 0 where
  pub guest : guest_at image ≡ Ok setup.guest
  pub profile : plan.profile ≡ setup.profile
  pub random : plan.random ≡ setup.random
  pub input : plan.input ≡ setup.input
  pub recorded : IsRecordedOf image plan trace outputs
  pub uncut : AreUncut (length setup.guest.entries) trace

-- neither was a call for the time answered
abbrev pub IsRecordingOfSetup : Setup → List ℕ → Plan → Recorded → List (List ℕ) → Type 0
IsRecordingOfSetup setup image plan trace outputs = IsUncutRecording setup image plan trace outputs × AreUntimed (length setup.guest.entries) trace

-- they are of a complete run of the guest with the outcome x
abbrev pub IsOfOutcome : Setup → ℕ → Recorded → List (List ℕ) → RunOutcome → Type 0
IsOfOutcome setup budget trace outputs x = (run : List Step) × IsOfRun setup.guest budget setup.profile run trace outputs × (outcome_by setup budget run ≡ x)

-- what is recorded so is of a run with an outcome of the guest
abbrev pub RecordingsHaveOutcomes : Type 0
RecordingsHaveOutcomes = (setup : Setup) (image : List ℕ) (plan : Plan) (trace : Recorded) (outputs : List (List ℕ))
    → IsRecordingOfSetup setup image plan trace outputs
    → (x : RunOutcome) × IsOfOutcome setup plan.budget trace outputs x × IsOutcomeOf setup x

-- once a search is finished, what is recorded so is of a run with one of the outcomes that it lists
abbrev pub RecordingsAreListed : Type 0
RecordingsAreListed = (guest : Guest) (explored : ExplorePlan) (k : Known) (image : List ℕ) (plan : Plan) (trace : Recorded) (outputs : List (List ℕ))
    → AreKnown guest explored k → k.ended ≡ Finished → IsRecordingOfSetup (setup_of guest explored) image plan trace outputs
    → (x : RunOutcome) × IsOfOutcome (setup_of guest explored) plan.budget trace outputs x × IsIn k.flats k.outcomes x

-- where no run of the guest that counts answers a call for the time, no recording does
abbrev pub RecordingsAreUntimed : Type 0
RecordingsAreUntimed = (setup : Setup) (image : List ℕ) (plan : Plan) (trace : Recorded) (outputs : List (List ℕ)) → IsUncutRecording setup image plan trace outputs
    → (HasTimedRun setup → ⊥) → AreUntimed (length setup.guest.entries) trace

-- so once a search is finished that doesn't say it of a run, each recording is of a run with one of the outcomes that it lists
abbrev pub UntimedRecordingsAreListed : Type 0
UntimedRecordingsAreListed = (guest : Guest) (explored : ExplorePlan) (k : Known) (image : List ℕ) (plan : Plan) (trace : Recorded) (outputs : List (List ℕ))
    → AreKnown guest explored k → k.ended ≡ Finished → k.timed ≡ false → IsUncutRecording (setup_of guest explored) image plan trace outputs
    → (x : RunOutcome) × IsOfOutcome (setup_of guest explored) plan.budget trace outputs x × IsIn k.flats k.outcomes x

-- where no outcome of the guest fulfils the conditions, none that is recorded so does
abbrev pub RecordingsNeverFulfil : Type 0
RecordingsNeverFulfil = (setup : Setup) (conditions : List Condition) (image : List ℕ) (plan : Plan) (trace : Recorded) (outputs : List (List ℕ))
    → NeverFulfils setup conditions → IsRecordingOfSetup setup image plan trace outputs
    → (x : RunOutcome) × IsOfOutcome setup plan.budget trace outputs x × (fulfils_each setup.guest conditions x ≡ false)

-- a run that hangs is never continued to a complete one that counts, whatever its budget
abbrev pub HangsNeverComplete : Type 0
HangsNeverComplete = (setup : Setup) (budget : ℕ) (steps : List Step) → IsHangOf setup budget steps → (most : ℕ) (more : List Step)
    → IsCountedOf setup most (steps ++ more) → ⊥
