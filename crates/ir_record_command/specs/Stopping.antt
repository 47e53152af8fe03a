-- What a recording that stopped leaves in the devices that it writes to.
use Rattle.std.specs.Prelude.{◌≡◌, ℕ, Bool, List, Option}
use Rattle.ir_files.specs.Outputs.{Printed, OutputWriter, output_writer_of}
use Rattle.ir_files.specs.Writers.{Writer, writer_of}
use Rattle.ir_files.specs.declared.exit_status.ExitStatus.{ExitStatus}
use Rattle.ir_record_command.specs.Faults.{fault_status, IsReported, StopsRecord, Unwritten, unwritten_of}
use Rattle.ir_record_command.specs.Plan.{Plan}
use Rattle.ir_record_command.specs.declared.record_fault.RecordFault.{RecordFault}

-- what a device for a file tells of itself: what it took, whether it failed, what messages call it, and why it failed
pub record Telling (D X : Type 0) : Type 0 where
  pub took : D → Option (List X)
  pub failed : D → Bool
  pub called : D → List ℕ
  pub cause : D → List ℕ

abbrev pub telling : {D X : Type 0} → (D → Option (List X)) → (D → Bool) → (D → List ℕ) → (D → List ℕ) → Telling D X
telling took failed called cause = record { took = took; failed = failed; called = called; cause = cause }

-- what devices for a trace, for outputs and for lines tell of themselves
pub record Tellings (W P O : Type 0) : Type 0 where
  pub trace : Telling W ℕ
  pub outputs : Telling P Printed
  pub took : O → Option (List ℕ)
  pub failed : O → Bool

abbrev pub tellings : {W P O : Type 0} → Telling W ℕ → Telling P Printed → (O → Option (List ℕ)) → (O → Bool) → Tellings W P O
tellings trace outputs took failed = record { trace = trace; outputs = outputs; took = took; failed = failed }

-- the devices of a recording
pub record Devices (W P O : Type 0) : Type 0 where
  pub trace : W
  pub outputs : P
  pub lines : O

abbrev pub devices : {W P O : Type 0} → W → P → O → Devices W P O
devices trace outputs lines = record { trace = trace; outputs = outputs; lines = lines }

-- what the device for the trace took between two states, and whether it failed; and so of the outputs, and of the lines
abbrev pub trace_between : {W P O : Type 0} → Tellings W P O → Devices W P O → Devices W P O → Writer
trace_between d old new = writer_of (d.trace.took old.trace) (d.trace.took new.trace) (d.trace.failed new.trace)

abbrev pub outputs_between : {W P O : Type 0} → Tellings W P O → Devices W P O → Devices W P O → OutputWriter
outputs_between d old new = output_writer_of (d.outputs.took old.outputs) (d.outputs.took new.outputs) (d.outputs.failed new.outputs)

abbrev pub lines_between : {W P O : Type 0} → Tellings W P O → Devices W P O → Devices W P O → Writer
lines_between d old new = writer_of (d.took old.lines) (d.took new.lines) (d.failed new.lines)

-- what a recording that stopped leaves: its fault is reported, and before it the devices took what comes before the fault's place
abbrev pub LeavesRecording : {W P O : Type 0} → Tellings W P O → RecordFault → List ℕ → Plan → Devices W P O → Devices W P O → Writer → Type 0
LeavesRecording d e image plan old new reports =
    IsReported e image plan (unwritten_of (d.trace.called new.trace) (d.trace.cause new.trace)) (unwritten_of (d.outputs.called new.outputs) (d.outputs.cause new.outputs)) reports
    × StopsRecord e image plan (trace_between d old new) (outputs_between d old new) (lines_between d old new)
    ((new.trace ≡ old.trace) × (new.outputs ≡ old.outputs) × (new.lines ≡ old.lines)) ((new.outputs ≡ old.outputs) × (new.lines ≡ old.lines)) (new.lines ≡ old.lines)

-- a recording stopped with the status of its fault
abbrev pub StopsRecording : {W P O : Type 0} → Tellings W P O → ExitStatus → List ℕ → Plan → Devices W P O → Devices W P O → Writer → Type 0
StopsRecording d status image plan old new reports = (e : RecordFault) × (status ≡ fault_status e) × LeavesRecording d e image plan old new reports
