-- The first outcome of a guest that another guest doesn't have, and its recording.
use Rattle.std.specs.Prelude.{◌≡◌, ◌⊎◌, ◌<◌, ◌≤◌, ℕ, Bool, true, false, List, length, Option, Some, None, Result, Ok, Err, slice_get}
use Rattle.std.specs.Io.KnownBytes.{Appends}
use Rattle.ir_files.specs.Writers.{Writer, Reports, fault_text}
use Rattle.ir_files.specs.declared.exit_status.ExitStatus.{ExitStatus}
use Rattle.ir_flat.specs.Flat.{tables}
use Rattle.ir_graph.specs.Outcomes.{RunOutcome, run_outcome}
use Rattle.ir_graph.specs.Setup.{IsCountedOf}
use Rattle.ir_image.specs.Guest.{Guest}
use Rattle.ir_order.specs.Recording.{IsPlannedInTurns, IsOfRun}
use Rattle.ir_order.specs.Spelling.{IsListOf}
use Rattle.ir_outcomes.specs.Explored.{ShowsState}
use Rattle.ir_outcomes.specs.Shown.{outcome_by, switches_by}
use Rattle.ir_outcomes.specs.declared.shown.Shown.{Shown}
use Rattle.ir_record.specs.Recording.{turns_of_items}
use Rattle.ir_record.specs.Refusing.{Turn}
use Rattle.ir_record_command.specs.Faults.{fault_status}
use Rattle.ir_record_command.specs.Order.{order_of}
use Rattle.ir_record_command.specs.Stopping.{Tellings, Devices, devices, lines_between, LeavesRecording}
use Rattle.ir_record_command.specs.declared.record_fault.RecordFault.{RecordFault}
use Rattle.ir_runs.specs.Run.{Step}
use Rattle.ir_state_store.specs.Nodes.{SourcedFlat}
use Rattle.ir_thread.specs.State.{most_budget}
use Rattle.ir_trace.specs.Recorded.{Recorded}
use Rattle.ir_explore.specs.Faults.{IsExplorable}
use Rattle.ir_explore.specs.Plan.{ExplorePlan, setup_of}
use Rattle.ir_explore.specs.Stopping.{WritesOnly}
use Rattle.ir_explore.specs.Texts.{Known}
use Rattle.ir_explore.specs.Until.{recording}
use Rattle.ir_within.specs.Aspects.{Aspects}
use Rattle.ir_within.specs.Faults.{Comparison, IsAnswerFor, ToldNone, AreFaultWords, within_fault_status}
use Rattle.ir_within.specs.Within.{IsCompared, IsWithinAnswer, verdict_status}
use Rattle.ir_within.specs.declared.fault.WithinFault.{WithinFault}
use Rattle.ir_within.specs.declared.verdict.Verdict.{Verdict}
use Rattle.ir_within.specs.declared.verdict.Verdict.TheVariants.{Outside}

-- the first place that is marked, or that none is
abbrev pub IsFirstMark : List Bool → Option ℕ → Type 0
IsFirstMark marks (Some place) = (slice_get marks place ≡ Some true) × ((i : ℕ) → i < place → slice_get marks i ≡ Some false)
IsFirstMark marks None = (i : ℕ) → slice_get marks i ≡ Some true → ⊥

-- the list spells the turns of the outcome at the first place that is marked; there is no list where none is marked
abbrev pub IsListOfFirst : Known → List Bool → Option (List ℕ) → Type 0
IsListOfFirst k marks (Some list) = (place : ℕ) × (x : Shown) × (slice_get k.outcomes place ≡ Some x) × IsFirstMark marks (Some place)
    × IsListOf list (turns_of_items x.turns.items)
IsListOfFirst k marks None = IsFirstMark marks None

-- A list spells the turns of a complete run of the guest, which is the one that is recorded by the list: each call is answered by the plan's random
-- words, its bytes and a count. The run comes to the outcome, with these many switches; and no complete run that comes to the outcome has fewer, whatever
-- its budget, but for runs in which a budget is spent or a log is full.
pub record LeadsToOutcome (guest : Guest) (plan : ExplorePlan) (x : RunOutcome) (level : ℕ) (list : List ℕ) : Type 0 where
  pub turns : List Turn
  pub spelled : order_of (length guest.entries) list ≡ Some turns
  pub run : List Step
  pub counted : IsCountedOf (setup_of guest plan) most_budget run
  pub planned : IsPlannedInTurns guest (recording plan (Some list)) turns run
  pub same : outcome_by (setup_of guest plan) most_budget run ≡ x
  pub switched : switches_by (setup_of guest plan) most_budget run ≡ level
  pub fewest : (budget : ℕ) (steps : List Step) → IsCountedOf (setup_of guest plan) budget steps → outcome_by (setup_of guest plan) budget steps ≡ x
      → level ≤ switches_by (setup_of guest plan) budget steps

-- the first of the listed outcomes that are marked, and a list of its turns that leads there
pub record IsFirstMarked (guest : Guest) (plan : ExplorePlan) (k : Known) (marks : List Bool) (list : List ℕ) : Type 0 where
  pub place : ℕ
  pub shown : Shown
  pub state : SourcedFlat
  pub at : ShowsState k.flats k.outcomes place shown state
  pub first : IsFirstMark marks (Some place)
  pub listed : IsListOf list (turns_of_items shown.turns.items)
  pub leads : LeadsToOutcome guest plan (run_outcome (tables state.flat)) shown.level list

-- the outcomes of both guests are compared and so many are outside, and the list leads to the first of these
pub record IsOutsideTold (a : Aspects) (guest other : Guest) (plan : ExplorePlan) (list : List ℕ) (many : ℕ) (text : List ℕ) : Type 0 where
  pub compared : IsCompared a guest other plan (Outside many) text
  pub first : IsFirstMarked guest plan compared.known compared.outside list

-- the answer to whether each outcome of the guest is one of the other's, with the list of the first that is outside; there is no list where none is
abbrev pub IsListedAnswer : Aspects → Guest → Guest → ExplorePlan → Option (List ℕ) → Verdict → List ℕ → Type 0
IsListedAnswer a guest other plan (Some list) verdict text = (many : ℕ) × (verdict ≡ Outside many) × IsOutsideTold a guest other plan list many text
IsListedAnswer a guest other plan None verdict text = IsWithinAnswer a guest other plan verdict text × ((many : ℕ) → verdict ≡ Outside many → ⊥)

-- the same of the guests that both images encode
pub record IsListedFor (c : Comparison) (list : Option (List ℕ)) (verdict : Verdict) (text : List ℕ) : Type 0 where
  pub guest : Guest
  pub other : Guest
  pub is : IsExplorable c.image c.plan.profile guest
  pub other_is : IsExplorable c.other c.plan.profile other
  pub answer : IsListedAnswer c.aspects guest other c.plan list verdict text

-- some outcome of the first guest is outside, and the list leads to the first of these
pub record IsOutsideFor (c : Comparison) (list text : List ℕ) : Type 0 where
  pub guest : Guest
  pub other : Guest
  pub is : IsExplorable c.image c.plan.profile guest
  pub other_is : IsExplorable c.other c.plan.profile other
  pub many : ℕ
  pub told : IsOutsideTold c.aspects guest other c.plan list many text

-- what is written: with the list of the first outcome that is outside; or no outcome is known to be, with the exit status that says so
abbrev pub IsOutsideAnswer : Comparison → Result (List ℕ) ExitStatus → List ℕ → Type 0
IsOutsideAnswer c (Ok list) text = IsOutsideFor c list text
IsOutsideAnswer c (Err answered) text = (verdict : Verdict) × IsAnswerFor c verdict text × (answered ≡ verdict_status verdict)
    × ((many : ℕ) → verdict ≡ Outside many → ⊥)

-- the run that leads to the first outcome that is outside is recorded: its trace, and what its threads printed
pub record IsOutsideRecorded (c : Comparison) (list text : List ℕ) (trace : Recorded) (outputs : List (List ℕ)) : Type 0 where
  pub found : IsOutsideFor c list text
  pub recorded : IsOfRun found.guest most_budget c.plan.profile found.told.first.leads.run trace outputs

-- there is no answer, by a fault that is reported, and nothing is recorded
abbrev pub TellsNoComparison : {W P O : Type 0} → Tellings W P O → ExitStatus → Comparison → Devices W P O → Devices W P O → Writer → Type 0
TellsNoComparison d status c old new reports = (e : WithinFault) × (status ≡ within_fault_status e) × (new.trace ≡ old.trace) × (new.outputs ≡ old.outputs)
    × ToldNone e c (lines_between d old new) × ((words : List ℕ) × AreFaultWords e words × Reports reports (fault_text words))

-- an outcome that is outside is told, and the recording of its run stopped
abbrev pub StopsAfterOutside : {W P O : Type 0} → Tellings W P O → ExitStatus → Comparison → Devices W P O → Devices W P O → Writer → Type 0
StopsAfterOutside {W} {P} {O} d status c old new reports = (e : RecordFault) × (status ≡ fault_status e) × (text list : List ℕ) × (said : O)
    × IsOutsideAnswer c (Ok list) text × Appends (d.took old.lines) (d.took said) text
    × LeavesRecording d e c.image (recording c.plan (Some list)) (devices old.trace old.outputs said) new reports

-- a comparison ended without a recording, with a status
abbrev pub StopsOutside : {W P O : Type 0} → Tellings W P O → ExitStatus → Comparison → Devices W P O → Devices W P O → Writer → Type 0 → Type 0
StopsOutside d status c old new reports same = WritesOnly d (IsOutsideAnswer c (Err status)) old new same
    ⊎ (TellsNoComparison d status c old new reports ⊎ StopsAfterOutside d status c old new reports)
