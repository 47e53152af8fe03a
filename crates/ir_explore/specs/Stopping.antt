-- What `ir explore --until` leaves where nothing is recorded.
use Rattle.std.specs.Io.KnownBytes.{Appends}
use Rattle.std.specs.Prelude.{◌≡◌, List, ℕ}
use Rattle.ir_files.specs.Writers.{Writer, Reports, fault_text}
use Rattle.ir_files.specs.declared.exit_status.ExitStatus.{ExitStatus}
use Rattle.ir_record_command.specs.Stopping.{Tellings, Devices, lines_between}
use Rattle.ir_explore.specs.Faults.{explore_fault_status, explore_fault_words}
use Rattle.ir_explore.specs.declared.fault.ExploreFault.{ExploreFault}

-- a text of the kind is written, and nothing else
abbrev pub WritesOnly : {W P O : Type 0} → Tellings W P O → (List ℕ → Type 0) → Devices W P O → Devices W P O → Type 0 → Type 0
WritesOnly d is_text old new same = (new.trace ≡ old.trace) × (new.outputs ≡ old.outputs) × same
    × ((text : List ℕ) × is_text text × Appends (d.took old.lines) (d.took new.lines) text)

-- there is no answer, by a fault of the kind, which is reported
abbrev pub TellsNoAnswer : {W P O : Type 0} → Tellings W P O → (ExploreFault → Writer → Type 0) → ExitStatus → Devices W P O → Devices W P O → Writer → Type 0
TellsNoAnswer d has_none status old new reports = (e : ExploreFault) × (status ≡ explore_fault_status e) × (new.trace ≡ old.trace) × (new.outputs ≡ old.outputs)
    × has_none e (lines_between d old new) × Reports reports (fault_text (explore_fault_words e))
