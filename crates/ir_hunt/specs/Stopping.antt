-- How a hunt ends.
use Rattle.std.specs.Io.KnownBytes.{Appends}
use Rattle.std.specs.Prelude.{◌≡◌, ◌≢◌, ℕ, zero, suc, Bool, true, false, List, ◌++◌, ◌⊎◌, nat_lt}
use Rattle.ir_files.specs.Outputs.{TookEach}
use Rattle.ir_files.specs.Writers.{Writer, Failed, Reports, fault_text}
use Rattle.ir_files.specs.declared.exit_status.ExitStatus.{ExitStatus}
use Rattle.ir_files.specs.declared.exit_status.ExitStatus.TheVariants.{NotSo, GaveUp}
use Rattle.ir_record_command.specs.Faults.{fault_status, record_fault_words, RefusesRecord}
use Rattle.ir_record_command.specs.Plan.{Plan}
use Rattle.ir_record_command.specs.Recording.{recording_lines}
use Rattle.ir_record_command.specs.Stopping.{Tellings, Devices, devices, lines_between, outputs_between, LeavesRecording}
use Rattle.ir_trace.specs.Encoding.{encoding}
use Rattle.ir_trace.specs.Recorded.{Recorded}
use Rattle.ir_record_command.specs.declared.record_fault.RecordFault.{RecordFault}
use Rattle.ir_record_command.specs.declared.record_fault.RecordFault.TheVariants.{Clock, Lines, Order}
use Rattle.ir_hunt.specs.Finding.{by_list}
use Rattle.ir_hunt.specs.Hunted.{IsFinding, IsFoundIn, IsNoneIn}
use Rattle.ir_hunt.specs.Lines.{found_line, left_out_words, none_lines}
use Rattle.ir_hunt.specs.declared.plan.HuntPlan.{HuntPlan}

-- why no seed is tried: the image's first fault, or more threads or objects than the profile allows; if memory ran out, that says nothing of them
pub record RefusesHunt (e : RecordFault) (image : List ℕ) (plan : Plan) : Type 0 where
  pub refused : RefusesRecord e image plan
  pub no_clock : e ≢ Clock
  pub no_list : (n : ℕ) → e ≢ Order n

-- a fault is reported in its own words
abbrev pub IsTold : RecordFault → Writer → Type 0
IsTold e faults = Reports faults (fault_text (record_fault_words e))

-- the lines of a hunt: of the seed that is found, or that there is none of the plan's up to the one that was tried last
abbrev pub IsHuntLine : List ℕ → HuntPlan → List ℕ → Type 0
IsHuntLine image plan line = ((left_out seed : ℕ) × (list : List ℕ) × IsFoundIn image plan left_out seed list × (line ≡ found_line seed list))
    ⊎ ((last left_out : ℕ) × IsNoneIn image plan last left_out × (line ≡ none_lines plan.seeds.first last plan.seeds.last))

-- the exit status where none is found, the time was over before the last seed was tried or wasn't, and so many seeds were left out
abbrev pub none_status : Bool → ℕ → ExitStatus
none_status true left_out = GaveUp
none_status false zero = NotSo
none_status false (suc n) = GaveUp

-- how many seeds were left out is reported, if some were; else what is reported is as before
abbrev pub TellsLeftOut : ℕ → Writer → Type 0 → Type 0
TellsLeftOut zero faults same = same
TellsLeftOut (suc n) faults same = Reports faults (fault_text (left_out_words (suc n)))

-- of the lowest seed that is found, its run's trace was written, what its threads printed, and the lines with the list; and it is reported how many
-- seeds were left out
abbrev pub RecordsFound : {W P O : Type 0} → Tellings W P O → Recorded → List ℕ → HuntPlan → Devices W P O → Devices W P O → Writer → Type 0 → Type 0
RecordsFound d recorded image plan old new reports same = (left_out seed : ℕ) × (list : List ℕ) × (printed : List (List ℕ)) × IsFinding image plan left_out seed list recorded printed
    × Appends (d.trace.took old.trace) (d.trace.took new.trace) (encoding recorded) × TookEach (outputs_between d old new) printed
    × Appends (d.took old.lines) (d.took new.lines) (found_line seed list ++ recording_lines recorded) × TellsLeftOut left_out reports same

-- no seed is found of those up to one, each of which was tried: that is written and nothing else, and it is reported how many were left out
abbrev pub EndsWithNone : {W P O : Type 0} → Tellings W P O → ExitStatus → List ℕ → HuntPlan → Devices W P O → Devices W P O → Writer → Type 0 → Type 0
EndsWithNone d status image plan old new reports same = (last left_out : ℕ) × (status ≡ none_status (nat_lt last plan.seeds.last) left_out) × IsNoneIn image plan last left_out
    × (new.trace ≡ old.trace) × (new.outputs ≡ old.outputs) × Appends (d.took old.lines) (d.took new.lines) (none_lines plan.seeds.first last plan.seeds.last)
    × TellsLeftOut left_out reports same

-- no seed is tried, nothing is written, and why is reported
abbrev pub TriesNone : {W P O : Type 0} → RecordFault → List ℕ → HuntPlan → Devices W P O → Devices W P O → Writer → Type 0
TriesNone e image plan old new reports = RefusesHunt e image plan.record
    × (new.trace ≡ old.trace) × (new.outputs ≡ old.outputs) × (new.lines ≡ old.lines) × IsTold e reports

-- the hunt's lines failed, and nothing is recorded
abbrev pub FailsInLine : {W P O : Type 0} → Tellings W P O → RecordFault → List ℕ → HuntPlan → Devices W P O → Devices W P O → Writer → Type 0
FailsInLine d e image plan old new reports = (line : List ℕ) × (e ≡ Lines) × IsHuntLine image plan line
    × Failed (lines_between d old new) line × (new.trace ≡ old.trace) × (new.outputs ≡ old.outputs) × IsTold e reports

-- what is found is said, and its recording stopped
abbrev pub StopsAfterFound : {W P O : Type 0} → Tellings W P O → RecordFault → List ℕ → HuntPlan → Devices W P O → Devices W P O → Writer → Type 0
StopsAfterFound {W} {P} {O} d e image plan old new reports = (left_out seed : ℕ) × (list : List ℕ) × (said : O) × IsFoundIn image plan left_out seed list
    × Appends (d.took old.lines) (d.took said) (found_line seed list)
    × LeavesRecording d e image (by_list plan.record list) (devices old.trace old.outputs said) new reports

-- a hunt ended without a recording, with a status
abbrev pub StopsHunt : {W P O : Type 0} → Tellings W P O → ExitStatus → List ℕ → HuntPlan → Devices W P O → Devices W P O → Writer → Type 0 → Type 0
StopsHunt d status image plan old new reports same = EndsWithNone d status image plan old new reports same
    ⊎ ((e : RecordFault) × (status ≡ fault_status e)
    × (TriesNone e image plan old new reports ⊎ (FailsInLine d e image plan old new reports ⊎ StopsAfterFound d e image plan old new reports)))
