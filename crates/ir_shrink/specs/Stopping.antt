-- How shrinking ends.
use Rattle.std.specs.Prelude.{◌≡◌, ◌≢◌, ◌++◌, ◌⊎◌, ℕ, ⊤, Bool, false, List, [], length, codes, map, Some, Ok, Option}
use Rattle.std.specs.List.{slice_index_or}
use Rattle.std.specs.String.{string_bytes}
use Rattle.std.specs.Io.KnownBytes.{Appends}
use Rattle.ir_files.specs.Outputs.{TookEach}
use Rattle.ir_files.specs.Writers.{Writer, Failed, Reports, fault_text, named_fault}
use Rattle.ir_files.specs.declared.exit_status.ExitStatus.{ExitStatus}
use Rattle.ir_files.specs.declared.exit_status.ExitStatus.TheVariants.{NotFit, NotSo}
use Rattle.ir_hunt.specs.Finding.{by_list}
use Rattle.ir_hunt.specs.Stale.{FailsStale}
use Rattle.ir_hunt.specs.Stopping.{RefusesHunt}
use Rattle.ir_image.specs.Guest.{Guest, guest_at}
use Rattle.ir_order.specs.Recording.{IsOfRun, IsPlannedInTurns}
use Rattle.ir_record.specs.Recording.{turns_of_items, IsTraceOf}
use Rattle.ir_record.specs.declared.item.Item.{Item}
use Rattle.ir_record_command.specs.Faults.{fault_status, record_fault_words}
use Rattle.ir_record_command.specs.Order.{order_of}
use Rattle.ir_record_command.specs.Plan.{Plan}
use Rattle.ir_record_command.specs.Recording.{recording_lines}
use Rattle.ir_record_command.specs.Stopping.{Tellings, Devices, devices, lines_between, outputs_between, LeavesRecording}
use Rattle.ir_record_command.specs.declared.record_fault.RecordFault.{RecordFault}
use Rattle.ir_record_command.specs.declared.record_fault.RecordFault.TheVariants.{Lines}
use Rattle.ir_runs.specs.Run.{Step}
use Rattle.ir_trace.specs.Encoding.{encoding}
use Rattle.ir_trace.specs.Recorded.{Recorded}
use Rattle.ir_shrink.specs.Lines.{shrunk_lines}
use Rattle.ir_shrink.specs.Shrinking.{Goal, goal_of, FailsAt, IsOrderOf, IsShrunk}
use Rattle.ir_shrink.specs.declared.plan.ShrinkPlan.{ShrinkPlan}
use Rattle.ir_shrink.specs.declared.refusal.Refusal.{Refusal}
use Rattle.ir_shrink.specs.declared.refusal.Refusal.TheVariants.{Fault, Other, Unmet, Stale}

-- a run of an image's guest with the trace is shrunk: the list spells the order of the run that it is shrunk to
pub record IsShrunkIn (image : List ℕ) (plan : ShrinkPlan) (trace : Recorded) (before after : ℕ) (list : List ℕ) (is_minimal : Bool) : Type 0 where
  pub guest : Guest
  pub is : guest_at image ≡ Ok guest
  pub items : List Item
  pub shrunk : IsShrunk (goal_of guest plan) trace before after items is_minimal
  pub spelled : order_of (length guest.entries) list ≡ Some (turns_of_items items)
  -- only where the time is bounded that isn't known
  pub over : is_minimal ≡ false → (s : ℕ) × (plan.seconds ≡ Some s)

-- and this is the trace of that run, and what its threads printed
pub record IsShrinking (image : List ℕ) (plan : ShrinkPlan) (trace : Recorded) (before after : ℕ) (list : List ℕ) (is_minimal : Bool)
    (recorded : Recorded) (printed : List (List ℕ)) : Type 0 where
  pub is : IsShrunkIn image plan trace before after list is_minimal
  pub of_run : IsOfRun is.guest plan.record.budget plan.record.profile is.shrunk.kept.run recorded printed

-- a run of the guest by turns has another trace
pub record HasOtherTrace (guest : Guest) (plan : Plan) (trace : Recorded) : Type 0 where
  pub items : List Item
  pub run : List Step
  pub in_turns : IsPlannedInTurns guest plan (turns_of_items items) run
  pub other : Recorded
  pub traces : IsTraceOf guest plan.budget plan.profile run other
  pub differs : other ≢ trace

-- the run with the trace has an order, and doesn't fulfil the condition at a place
pub record HasUnmet (goal : Goal) (trace : Recorded) (place : ℕ) : Type 0 where
  pub items : List Item
  pub count : ℕ
  pub order : IsOrderOf goal.guest goal.plan trace items count
  pub fails : FailsAt goal order.run place

-- the same, where it hasn't what is wanted of its stale writes
pub record HasUnwanted (goal : Goal) (trace : Recorded) : Type 0 where
  pub items : List Item
  pub count : ℕ
  pub order : IsOrderOf goal.guest goal.plan trace items count
  pub fails : FailsStale goal.guest goal.plan goal.wanted order.run

-- why the run of a guest with a trace isn't shrunk
abbrev pub RefusesRun : Refusal → Goal → Recorded → Type 0
RefusesRun (Fault e) goal trace = ⊤
RefusesRun Other goal trace = HasOtherTrace goal.guest goal.plan trace
RefusesRun (Unmet place) goal trace = HasUnmet goal trace place
RefusesRun Stale goal trace = HasUnwanted goal trace

-- the same of an image: its first fault, or more threads or objects than the profile allows; if memory ran out, that says nothing of them
abbrev pub RefusesShrink : Refusal → List ℕ → ShrinkPlan → Recorded → Type 0
RefusesShrink (Fault e) image plan trace = RefusesHunt e image plan.record
RefusesShrink why image plan trace = (guest : Guest) × (guest_at image ≡ Ok guest) × RefusesRun why (goal_of guest plan) trace

-- the exit status
abbrev pub shrink_status : Refusal → ExitStatus
shrink_status (Fault e) = fault_status e
shrink_status Other = NotFit
shrink_status (Unmet place) = NotSo
shrink_status Stale = NotSo

-- what is said of a run that has another trace than the one that is given
abbrev pub other_words : List ℕ
other_words = codes "no run was found that has TRACE with this --random and this --input, where calls for the time are counted"

-- what is said of a run that doesn't fulfil what is asked of it
abbrev pub unmet_words : List ℕ → List ℕ
unmet_words text = named_fault (codes "the run of TRACE doesn't fulfil '") text (codes "'") []

-- what is asked of stale writes, as it is written
abbrev pub wanted_text : Option Bool → List ℕ
wanted_text (Some false) = codes "!stale"
wanted_text wanted = codes "stale"

-- the text of the condition at a place
abbrev pub text_at : List (List ℕ) → ℕ → List ℕ
text_at texts place = slice_index_or texts place []

-- a refusal is reported in one line
abbrev pub IsRefusalTold : Refusal → ShrinkPlan → Writer → Type 0
IsRefusalTold (Fault e) plan faults = Reports faults (fault_text (record_fault_words e))
IsRefusalTold Other plan faults = Reports faults (fault_text other_words)
IsRefusalTold (Unmet place) plan faults = Reports faults (fault_text (unmet_words (text_at (map string_bytes plan.texts.now) place)))
IsRefusalTold Stale plan faults = Reports faults (fault_text (unmet_words (wanted_text plan.stale)))

-- the run with the trace is shrunk: the trace of what it is shrunk to was written, what its threads printed, and the lines with the list
abbrev pub RecordsShrunk : {W P O : Type 0} → Tellings W P O → Recorded → Bool → List ℕ → ShrinkPlan → Recorded → Devices W P O → Devices W P O → Type 0
RecordsShrunk d recorded is_minimal image plan trace old new = (before after : ℕ) × (list : List ℕ) × (printed : List (List ℕ))
    × IsShrinking image plan trace before after list is_minimal recorded printed
    × Appends (d.trace.took old.trace) (d.trace.took new.trace) (encoding recorded) × TookEach (outputs_between d old new) printed
    × Appends (d.took old.lines) (d.took new.lines) (shrunk_lines before after list is_minimal ++ recording_lines recorded)

-- it isn't shrunk, nothing is written, and why is reported
abbrev pub ShrinksNone : {W P O : Type 0} → Refusal → List ℕ → ShrinkPlan → Recorded → Devices W P O → Devices W P O → Writer → Type 0
ShrinksNone e image plan trace old new reports = RefusesShrink e image plan trace
    × (new.trace ≡ old.trace) × (new.outputs ≡ old.outputs) × (new.lines ≡ old.lines) × IsRefusalTold e plan reports

-- the lines failed, and nothing is recorded
abbrev pub FailsInLines : {W P O : Type 0} → Tellings W P O → ExitStatus → List ℕ → ShrinkPlan → Devices W P O → Devices W P O → Writer → Type 0
FailsInLines d status lines plan old new reports = (status ≡ fault_status Lines) × Failed (lines_between d old new) lines
    × (new.trace ≡ old.trace) × (new.outputs ≡ old.outputs) × IsRefusalTold (Fault Lines) plan reports

-- the lines are written, and the recording by the list stopped
abbrev pub StopsAfterLines : {W P O : Type 0} → Tellings W P O → ExitStatus → List ℕ → List ℕ → List ℕ → ShrinkPlan → Devices W P O → Devices W P O → Writer
    → Type 0
StopsAfterLines {W} {P} {O} d status image lines list plan old new reports = (e : RecordFault) × (said : O) × (status ≡ fault_status e)
    × Appends (d.took old.lines) (d.took said) lines
    × LeavesRecording d e image (by_list plan.record list) (devices old.trace old.outputs said) new reports

-- shrinking ended without a recording, with a status
abbrev pub StopsShrink : {W P O : Type 0} → Tellings W P O → ExitStatus → List ℕ → ShrinkPlan → Recorded → Devices W P O → Devices W P O → Writer → Type 0
StopsShrink d status image plan trace old new reports = ((e : Refusal) × (status ≡ shrink_status e) × ShrinksNone e image plan trace old new reports)
    ⊎ ((before after : ℕ) × (list : List ℕ) × (is_minimal : Bool) × IsShrunkIn image plan trace before after list is_minimal
    × (FailsInLines d status (shrunk_lines before after list is_minimal) plan old new reports
    ⊎ StopsAfterLines d status image (shrunk_lines before after list is_minimal) list plan old new reports))
