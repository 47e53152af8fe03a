-- What was recorded of a run, however the code keeps it, and how it is read from bytes.
use Rattle.std.specs.Prelude.{ℕ, List, [], map, Some, length, Option, None, Result, Ok, Err, nat_lt, ◌==◌, ◌||◌, if◌then◌else◌, ◌∷◌}
use Rattle.ir_thread.specs.declared.end.End.{End}
use Rattle.ir_thread.specs.declared.profile.Profile.{Profile}
use Rattle.ir_log.specs.declared.event.Event.{Event}
use Rattle.std.specs.List.{slice_index_or}
use Rattle.ir_thread.specs.State.{end_number, end_code, largest, end_of, most_budget, most_events, is_result}
use Rattle.ir_runs.specs.Machine.{Trace}
use Rattle.ir_thread.specs.declared.end.End.TheVariants.{Breakpoint}
use Rattle.ir_log.specs.Logging.{label_of}
use Rattle.byteorder.specs.Endian.{little_number}
use Rattle.ir_bytes.specs.Reading.{◌>>=◌, Reader, tested, within, number_at, field_at, fields_at}
use Rattle.ir_image.specs.Guest.{limits_of}
use Rattle.ir_runs.specs.declared.env_kind.EnvKind.{EnvKind}
use Rattle.ir_runs.specs.declared.env_kind.EnvKind.TheVariants.{Clock, Random, Input}
use Rattle.ir_thread.specs.declared.profile.Profile.TheVariants.{One, Two}
use Rattle.ir_log.specs.declared.event.Event.TheVariants.{Answer, Read, Write, Try}
use Rattle.ir_trace.specs.declared.header.Header.{Header}
use Rattle.ir_trace.specs.declared.trace_err.TraceErr.{TraceErr}
use Rattle.ir_trace.specs.declared.trace_err.TraceErr.TheVariants.{Short, Magic, Count, Tag, Reserved, Range, Trailing, NoMem}

-- what was recorded of one thread
pub record RecordedThread : Type 0 where
  -- how many steps it took, its end and what it released among them
  pub steps : ℕ
  pub end : End
  -- what it logged, the first event first
  pub events : List Event

-- what was recorded of a run
pub record Recorded : Type 0 where
  -- how many objects the guest has
  pub objects : ℕ
  -- how many steps each thread might take before it had to end
  pub budget : ℕ
  -- which system calls there are
  pub profile : Profile
  -- the threads by their numbers
  pub threads : List RecordedThread

-- the thread of a number; one that is none of the guest's took no step and logged nothing, and counts as one that has ended
abbrev pub recorded_thread : Recorded → ℕ → RecordedThread
recorded_thread r t = slice_index_or r.threads t (record { steps = 0; end = Breakpoint; events = [] })

-- what was recorded, as a trace: in tables by the numbers of the threads
abbrev pub trace_of : Recorded → Trace
trace_of r = record {
  steps = λ t. (recorded_thread r t).steps;
  logs = λ t. map label_of (recorded_thread r t).events;
  ends = λ t. let e = (recorded_thread r t).end in Some (end_number e, end_code e);
}

-- ---- reading from the left: each field is read whole and then tested, and the first fault is named

-- `IRT1`, and in the second profile `IRT2`
abbrev pub trace_magic : Profile → List ℕ
trace_magic One = 0x49 ∷ 0x52 ∷ 0x54 ∷ 0x31 ∷ []
trace_magic Two = 0x49 ∷ 0x52 ∷ 0x54 ∷ 0x32 ∷ []

-- the profile, by the magic
unfoldable pub profile_at : Reader Profile TraceErr
profile_at bytes = field_at Short (tested 4 (λ n. n == little_number 4 (trace_magic One) || n == little_number 4 (trace_magic Two)) Magic) bytes
    >>= λ n. Ok (if n.0 == little_number 4 (trace_magic One) then One else Two, n.1)

-- what comes before the threads
unfoldable pub header_at : Reader Header TraceErr
header_at bytes = do
  profile ← profile_at bytes
  threads ← field_at Short (within 1 1 (limits_of (largest profile.0)).threads Count) profile.1
  objects ← field_at Short (within 1 0 (limits_of (largest profile.0)).objects Count) threads.1
  reserved ← field_at Short (tested 2 (λ n. n == 0) Reserved) objects.1
  budget ← field_at Short (within 8 0 most_budget Count) reserved.1
  Ok (record { profile = profile.0; threads = threads.0; objects = objects.0; budget = budget.0 }, budget.1)

-- an end that was found by its number and its code
abbrev pub end_by : Option End → Reader End TraceErr
end_by (Some end) rest = Ok (end, rest)
end_by None rest = Err Range

-- an end: its number, and then its code
unfoldable pub end_at : Reader End TraceErr
end_at bytes = do
  end ← field_at Short (within 1 1 14 Range) bytes
  code ← number_at Short 4 end.1
  end_by (end_of end.0 code.0) code.1

-- the result of a call of the environment
unfoldable pub answer_at : EnvKind → Reader Event TraceErr
answer_at kind bytes = number_at Short 4 bytes >>= λ n. Ok (Answer kind n.0, n.1)

-- the result of an input: a byte, or the input's end
unfoldable pub input_at : Reader Event TraceErr
input_at bytes = field_at Short (tested 4 (is_result Input) Range) bytes >>= λ n. Ok (Answer Input n.0, n.1)

-- an entry for reading: the object, and its version
unfoldable pub read_at : ℕ → Reader Event TraceErr
read_at objects bytes = do
  object ← field_at Short (tested 1 (λ n. nat_lt n objects) Count) bytes
  version ← number_at Short 4 object.1
  Ok (Read object.0 version.0, version.1)

-- an entry for writing: the object, its version, and how many readers had left it
unfoldable pub write_at : ℕ → Reader Event TraceErr
write_at objects bytes = do
  object ← field_at Short (tested 1 (λ n. nat_lt n objects) Count) bytes
  version ← number_at Short 4 object.1
  readers ← number_at Short 4 version.1
  Ok (Write object.0 version.0 readers.0, readers.1)

-- a refused try: the object
unfoldable pub try_at : ℕ → Reader Event TraceErr
try_at objects bytes = field_at Short (tested 1 (λ n. nat_lt n objects) Count) bytes >>= λ object. Ok (Try object.0, object.1)

-- a refused try, in the second profile
unfoldable pub try_by : Profile → ℕ → Reader Event TraceErr
try_by One objects bytes = Err Tag
try_by Two objects bytes = try_at objects bytes

-- the fields of an event whose tag was read
unfoldable pub event_by : Profile → ℕ → ℕ → Reader Event TraceErr
event_by profile tag objects bytes =
    if tag == 1 then answer_at Clock bytes else
    if tag == 2 then answer_at Random bytes else
    if tag == 3 then input_at bytes else
    if tag == 4 then read_at objects bytes else
    if tag == 5 then write_at objects bytes else
    if tag == 6 then try_by profile objects bytes else Err Tag

-- an event of a guest with `objects` objects
unfoldable pub event_reading : Profile → ℕ → Reader Event TraceErr
event_reading profile objects bytes = number_at Short 1 bytes >>= λ n. event_by profile n.0 objects n.1

-- a thread of a guest with `objects` objects
unfoldable pub thread_part_at : Profile → ℕ → Reader RecordedThread TraceErr
thread_part_at profile objects bytes = do
  steps ← number_at Short 8 bytes
  end ← end_at steps.1
  count ← field_at Short (within 4 0 most_events Count) end.1
  events ← fields_at (event_reading profile objects) count.0 count.1
  Ok (record { steps = steps.0; end = end.0; events = events.0 }, events.1)

-- the whole trace
unfoldable pub recorded_at : List ℕ → Result Recorded TraceErr
recorded_at bytes = do
  header ← header_at bytes
  threads ← fields_at (thread_part_at header.0.profile header.0.objects) header.0.threads header.1
  if length threads.1 == 0
      then Ok (record { objects = header.0.objects; budget = header.0.budget; profile = header.0.profile; threads = threads.0 })
      else Err Trailing

-- the number that a fault of the bytes goes by; running out of memory is no fault of theirs
abbrev pub trace_fault_number : TraceErr → Option ℕ
trace_fault_number Short = Some 1
trace_fault_number Magic = Some 2
trace_fault_number Count = Some 3
trace_fault_number Tag = Some 4
trace_fault_number Reserved = Some 5
trace_fault_number Range = Some 6
trace_fault_number Trailing = Some 7
trace_fault_number NoMem = None
