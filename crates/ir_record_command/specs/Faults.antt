-- Why there is no recording, and what that leaves.
use Rattle.std.specs.Prelude.{◌≡◌, ◌≤◌, ℕ, ◌==◌, List, [], length, codes, ⊤, ◌⊎◌, Some, None, Ok, Err}
use Rattle.std.specs.List.{slice_split}
use Rattle.ir_image.specs.Guest.{Guest, guest_at, most_threads}
use Rattle.ir_image.specs.declared.image_err.ImageErr.{ImageErr}
use Rattle.ir_image.specs.declared.image_err.ImageErr.TheVariants as image
use Rattle.ir_thread.specs.State.{IsAllowed}
use Rattle.ir_trace.specs.Recorded.{Recorded}
use Rattle.ir_trace.specs.Encoding.{encoding}
use Rattle.ir_record_command.specs.Order.{order_of, first_bad, item_why}
use Rattle.ir_record_command.specs.Plan.{Plan}
use Rattle.ir_record_command.specs.Recording.{IsRecordedOf, recording_lines}
use Rattle.ir_files.specs.Outputs.{OutputWriter, TookEach, FailedAtOne}
use Rattle.ir_files.specs.Writers.{Writer, Took, Failed, Reports, fault_text, named_fault}
use Rattle.ir_files.specs.declared.exit_status.ExitStatus.{ExitStatus}
use Rattle.ir_files.specs.declared.exit_status.ExitStatus.TheVariants as status
use Rattle.ir_record_command.specs.declared.order.OrderErr.{OrderErr}
use Rattle.ir_record_command.specs.declared.order.OrderErr.TheVariants as order_err
use Rattle.ir_record_command.specs.declared.record_fault.RecordFault.{RecordFault}
use Rattle.ir_record_command.specs.declared.record_fault.RecordFault.TheVariants.{Clock, Image, TooLarge, Order, NoMem, Trace, Output, Lines}

-- the profile allows the threads and objects of the image's guest
abbrev pub Allows : List ℕ → Plan → Type 0
Allows image plan = (guest : Guest) → guest_at image ≡ Ok guest → IsAllowed plan.profile guest

-- the exit status of a fault
abbrev pub fault_status : RecordFault → ExitStatus
fault_status (Image e) = status.Refused
fault_status TooLarge = status.Refused
fault_status (Order threads) = status.Refused
fault_status NoMem = status.Failed
fault_status Clock = status.Failed
fault_status Trace = status.Failed
fault_status Output = status.Failed
fault_status Lines = status.Failed

-- a refusal of the image in words
abbrev pub image_words : ImageErr → List ℕ
image_words image.Short = codes "the image is refused, 1: a field passes the end"
image_words image.Magic = codes "the image is refused, 2: these bytes are no image"
image_words image.Count = codes "the image is refused, 3: a count is over its limit, or no thread"
image_words image.Entry = codes "the image is refused, 4: an entry is no place in the code"
image_words image.Trailing = codes "the image is refused, 5: bytes stand after the end"
image_words image.NoMem = codes "memory ran out"

-- a fault in words, where it names nothing that a user wrote
abbrev pub record_fault_words : RecordFault → List ℕ
record_fault_words (Image e) = image_words e
record_fault_words TooLarge = codes "the first profile takes at most 8 threads and 16 objects, and --profile 2 takes more"
record_fault_words (Order threads) = codes "LIST is no order of this image's threads"
record_fault_words NoMem = codes "memory ran out"
record_fault_words Clock = codes "the clock can't be read"
record_fault_words Trace = codes "the trace can't be written"
record_fault_words Output = codes "an output can't be written"
record_fault_words Lines = codes "standard output can't be written"

-- what can't be written, as messages call it, and why
pub record Unwritten : Type 0 where
  pub called : List ℕ
  pub cause : List ℕ

abbrev pub unwritten_of : List ℕ → List ℕ → Unwritten
unwritten_of called cause = record { called = called; cause = cause }

abbrev pub unwritten_words : Unwritten → List ℕ
unwritten_words u = named_fault [] u.called (codes " can't be written: ") u.cause

-- the line of the first item of a list that spells no steps for a guest of so many threads, with the item's own reason
abbrev pub IsItemReported : ℕ → List ℕ → Writer → Type 0
IsItemReported threads list faults = (item : List ℕ) × (first_bad threads (slice_split (λ b. b == 44) list) ≡ Some item)
    × Reports faults (fault_text (named_fault (codes "LIST: the item '") item (codes "' ") (item_why threads item)))

-- the line of the first item of the plan's list that spells no steps for the image's guest
abbrev pub IsOrderReported : List ℕ → Plan → Writer → Type 0
IsOrderReported image plan faults = (guest : Guest) × (list : List ℕ) × (guest_at image ≡ Ok guest) × (plan.order ≡ Some list)
    × IsItemReported (length guest.entries) list faults

-- a fault is reported by one line, which says what can't be written, which item of the list spells no steps, or else the fault's own words
abbrev pub IsReported : RecordFault → List ℕ → Plan → Unwritten → Unwritten → Writer → Type 0
IsReported (Image e) image plan trace output faults = Reports faults (fault_text (image_words e))
IsReported TooLarge image plan trace output faults = Reports faults (fault_text (record_fault_words TooLarge))
IsReported NoMem image plan trace output faults = Reports faults (fault_text (record_fault_words NoMem))
IsReported Clock image plan trace output faults = Reports faults (fault_text (record_fault_words Clock))
IsReported Lines image plan trace output faults = Reports faults (fault_text (record_fault_words Lines))
IsReported (Order threads) image plan trace output faults = IsOrderReported image plan faults
IsReported Trace image plan trace output faults = Reports faults (fault_text (unwritten_words trace))
IsReported Output image plan trace output faults = Reports faults (fault_text (unwritten_words output))

-- the fault that a refusal of the image is
abbrev pub of_image : ImageErr → RecordFault
of_image image.Short = Image image.Short
of_image image.Magic = Image image.Magic
of_image image.Count = Image image.Count
of_image image.Entry = Image image.Entry
of_image image.Trailing = Image image.Trailing
of_image image.NoMem = NoMem

-- the fault that a refusal of the list is, for a guest of so many threads
abbrev pub of_order : ℕ → OrderErr → RecordFault
of_order threads order_err.Bad = Order threads
of_order threads order_err.NoMem = NoMem

-- why nothing is recorded: the image's first fault; more threads or objects than the profile allows; of a guest that it allows, a list
-- that spells no order, or without a list a clock that can't be read. That memory ran out says nothing of them
abbrev pub RefusesRecord : RecordFault → List ℕ → Plan → Type 0
RefusesRecord (Image e) image plan = guest_at image ≡ Err e
RefusesRecord TooLarge image plan = (guest : Guest) × (guest_at image ≡ Ok guest) × (IsAllowed plan.profile guest → ⊥)
RefusesRecord (Order threads) image plan = (guest : Guest) × (list : List ℕ) × (guest_at image ≡ Ok guest) × IsAllowed plan.profile guest
    × (threads ≡ length guest.entries) × (1 ≤ threads) × (threads ≤ most_threads) × (plan.order ≡ Some list) × (order_of threads list ≡ None)
RefusesRecord Clock image plan = (guest : Guest) × (guest_at image ≡ Ok guest) × IsAllowed plan.profile guest × (plan.order ≡ None)
RefusesRecord NoMem image plan = ⊤
RefusesRecord Trace image plan = ⊥
RefusesRecord Output image plan = ⊥
RefusesRecord Lines image plan = ⊥

-- which of the writers failed, of the trace, of the outputs and of the lines: the outputs come after the whole trace, and the
-- lines after all outputs. The last two say that those of the outputs and of the lines are as before, and that of the lines
abbrev pub WriteFails : RecordFault → List ℕ → List (List ℕ) → List ℕ → Writer → OutputWriter → Writer → Type 0 → Type 0 → Type 0
WriteFails Trace bytes printed lines trace outputs out later last = Failed trace bytes × later
WriteFails Output bytes printed lines trace outputs out later last = Took trace bytes × FailedAtOne outputs printed × last
WriteFails Lines bytes printed lines trace outputs out later last = Took trace bytes × TookEach outputs printed × Failed out lines
WriteFails Clock bytes printed lines trace outputs out later last = ⊥
WriteFails (Image e) bytes printed lines trace outputs out later last = ⊥
WriteFails TooLarge bytes printed lines trace outputs out later last = ⊥
WriteFails (Order threads) bytes printed lines trace outputs out later last = ⊥
WriteFails NoMem bytes printed lines trace outputs out later last = ⊥

-- a fault: nothing was written (all writers are as before), or there is a recording, the trace and the outputs of one run, and
-- a writer failed (those after it are as before)
abbrev pub StopsRecord : RecordFault → List ℕ → Plan → Writer → OutputWriter → Writer → Type 0 → Type 0 → Type 0 → Type 0
StopsRecord e image plan trace outputs out all later last = (RefusesRecord e image plan × all)
    ⊎ ((recorded : Recorded) × (printed : List (List ℕ)) × IsRecordedOf image plan recorded printed
    × WriteFails e (encoding recorded) printed (recording_lines recorded) trace outputs out later last)
