-- The fields of a trace in their order.
use Rattle.std.specs.Prelude.{ℕ, List, Option, ◌==◌, if◌then◌else◌, Bool, ◌||◌, nat_lt}
use Rattle.ir_bytes.specs.Format.{Format, finished, next, before, repeated, first_refused, plain, fixed}
use Rattle.ir_thread.specs.declared.profile.Profile.{Profile}
use Rattle.ir_trace.specs.declared.trace_err.TraceErr.{TraceErr}
use Rattle.ir_trace.specs.declared.trace_err.TraceErr.TheVariants.{Short, Trailing, Magic, Count, Reserved, Range}
use Rattle.ir_trace.specs.Recorded.{trace_magic}
use Rattle.ir_trace.specs.Results.{code_field, tag_field}
use Rattle.ir_thread.specs.State.{largest, most_budget, most_events, is_result}
use Rattle.ir_bytes.specs.Reading.{Field, tested, within}
use Rattle.ir_image.specs.Guest.{limits_of}
use Rattle.ir_runs.specs.declared.env_kind.EnvKind.TheVariants.{Input}
use Rattle.byteorder.specs.Endian.{little_number}
use Rattle.ir_thread.specs.declared.profile.Profile.TheVariants.{One, Two}

abbrev pub input_field : Field TraceErr
input_field = tested 4 (is_result Input) Range

-- the number of an object of a guest with `objects` objects
abbrev pub object_field : ℕ → Field TraceErr
object_field objects = tested 1 (λ n. nat_lt n objects) Count

-- after the tag: an input's value; an entry's object and version, and, if it is for writing, its readers; a refused try's object;
-- another answer's value
abbrev pub tagged_fields : ℕ → ℕ → Format TraceErr → Format TraceErr
tagged_fields objects tag rest =
    if tag == 3 then before input_field rest else
    if tag == 4 then before (object_field objects) (before (plain 4) rest) else
    if tag == 5 then before (object_field objects) (before (plain 4) (before (plain 4) rest)) else
    if tag == 6 then before (object_field objects) rest else before (plain 4) rest

-- an event of a guest with `objects` objects
abbrev pub event_fields : Profile → ℕ → Format TraceErr → Format TraceErr
event_fields profile objects rest = next (tag_field profile) λ tag. tagged_fields objects tag rest

-- the number of an end
abbrev pub end_field : Field TraceErr
end_field = within 1 1 14 Range

-- the number of events
abbrev pub events_field : Field TraceErr
events_field = within 4 0 most_events Count

-- a thread: its steps, its end and the code of that, how many events it has, and these
abbrev pub thread_fields : Profile → ℕ → Format TraceErr → Format TraceErr
thread_fields profile objects rest =
    before (plain 8) (next end_field λ end. before (code_field end)
    (next events_field λ count. repeated count (event_fields profile objects) rest))

abbrev pub trace_threads_field : Profile → Field TraceErr
trace_threads_field profile = within 1 1 (limits_of (largest profile)).threads Count

-- whether a number is the magic of a profile
abbrev pub is_magic : ℕ → Bool
is_magic n = n == little_number 4 (trace_magic One) || n == little_number 4 (trace_magic Two)

abbrev pub trace_magic_field : Field TraceErr
trace_magic_field = tested 4 is_magic Magic

abbrev pub trace_objects_field : Profile → Field TraceErr
trace_objects_field profile = within 1 0 (limits_of (largest profile)).objects Count

abbrev pub budget_field : Field TraceErr
budget_field = within 8 0 most_budget Count

-- the two bytes that are reserved
abbrev pub reserved_field : Field TraceErr
reserved_field = fixed 2 0 Reserved

-- the profile of a magic
abbrev pub profile_of : ℕ → Profile
profile_of n = if n == little_number 4 (trace_magic One) then One else Two

-- the magic, which says the profile; how many threads and objects; what is reserved; the budget; the threads
abbrev pub trace_fields : Format TraceErr
trace_fields =
    next trace_magic_field λ magic. next (trace_threads_field (profile_of magic)) λ threads. next (trace_objects_field (profile_of magic)) λ objects.
    before reserved_field (before budget_field (repeated threads (thread_fields (profile_of magic) objects) finished))

-- the first fault of bytes that are no trace
abbrev pub trace_fault : List ℕ → Option TraceErr
trace_fault = first_refused Short Trailing trace_fields
