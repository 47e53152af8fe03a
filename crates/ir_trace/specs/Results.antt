-- What reading a trace comes to.
use Rattle.std.specs.Prelude.{◌≡◌, ℕ, Result, Ok, Err, is_some}
use Rattle.ir_bytes.specs.Reading.{Field, tested, within}
use Rattle.ir_thread.specs.State.{end_of}
use Rattle.ir_thread.specs.declared.profile.Profile.{Profile}
use Rattle.ir_thread.specs.declared.profile.Profile.TheVariants.{One, Two}
use Rattle.ir_trace.specs.declared.trace_err.TraceErr.{TraceErr}
use Rattle.ir_trace.specs.declared.trace_err.TraceErr.TheVariants.{Short, Magic, Count, Tag, Reserved, Range, Trailing, NoMem}

-- reading meets this fault, or memory ran out
abbrev pub FailsAsTrace : {Y : Type 0} → TraceErr → Result Y TraceErr → Type 0
FailsAsTrace NoMem read = Unit {0}
FailsAsTrace Short read = read ≡ Err Short
FailsAsTrace Magic read = read ≡ Err Magic
FailsAsTrace Count read = read ≡ Err Count
FailsAsTrace Tag read = read ≡ Err Tag
FailsAsTrace Reserved read = read ≡ Err Reserved
FailsAsTrace Range read = read ≡ Err Range
FailsAsTrace Trailing read = read ≡ Err Trailing

-- an answer, seen by a view, is what reading gives, unless memory ran out
abbrev pub YieldsTrace : {X Y : Type 0} → (X → Y) → Result X TraceErr → Result Y TraceErr → Type 0
YieldsTrace view (Ok x) read = read ≡ Ok (view x)
YieldsTrace view (Err e) read = FailsAsTrace e read

-- ---- the fields that are tested

-- the code of the end of this number, which is 0 unless the number is 1
abbrev pub code_field : ℕ → Field TraceErr
code_field end = tested 4 (λ code. is_some (end_of end code)) Range

-- the greatest number of a kind of events
abbrev pub last_tag : Profile → ℕ
last_tag One = 5
last_tag Two = 6

-- how many bytes the shortest event has
abbrev pub shortest : Profile → ℕ
shortest One = 5
shortest Two = 2

-- what kind an event is of
abbrev pub tag_field : Profile → Field TraceErr
tag_field profile = within 1 1 (last_tag profile) Tag
