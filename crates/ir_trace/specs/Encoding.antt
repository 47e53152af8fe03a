-- The one encoding of what was recorded, field by field; a number is its bytes, the lowest first.
use Rattle.std.specs.Prelude.{ℕ, List, [], ◌∷◌, ◌++◌, length}
use Rattle.std.specs.List.{flat_map}
use Rattle.byteorder.specs.Endian.{little_bytes}
use Rattle.ir_thread.specs.State.{end_number, end_code}
use Rattle.ir_runs.specs.declared.env_kind.EnvKind.{EnvKind}
use Rattle.ir_runs.specs.declared.env_kind.EnvKind.TheVariants.{Clock, Random, Input}
use Rattle.ir_thread.specs.declared.end.End.{End}
use Rattle.ir_log.specs.declared.event.Event.{Event}
use Rattle.ir_log.specs.declared.event.Event.TheVariants.{Answer, Read, Write, Try}
use Rattle.ir_trace.specs.Recorded.{RecordedThread, Recorded, trace_magic}
use Rattle.ir_trace.specs.declared.header.Header.{Header}

-- the byte that a call of the environment begins with
abbrev pub kind_tag : EnvKind → ℕ
kind_tag Clock = 1
kind_tag Random = 2
kind_tag Input = 3

-- an event: what kind it is of, and its fields
unfoldable pub event_encoding : Event → List ℕ
event_encoding (Answer kind value) = kind_tag kind ∷ little_bytes 4 value
event_encoding (Read object version) = 4 ∷ object ∷ little_bytes 4 version
event_encoding (Write object version readers) = 5 ∷ object ∷ (little_bytes 4 version ++ little_bytes 4 readers)
event_encoding (Try object) = 6 ∷ object ∷ []

-- the number of an end, and its code
unfoldable pub end_encoding : End → List ℕ
end_encoding end = end_number end ∷ little_bytes 4 (end_code end)

-- a thread: its steps, its end, the number of its events, and these
unfoldable pub thread_encoding : RecordedThread → List ℕ
thread_encoding t = little_bytes 8 t.steps ++ end_encoding t.end ++ little_bytes 4 (length t.events) ++ flat_map event_encoding t.events

-- what comes before the threads
abbrev pub header_of : Recorded → Header
header_of r = record { profile = r.profile; threads = length r.threads; objects = r.objects; budget = r.budget }

-- the magic, the number of threads and of objects, two bytes that are reserved, the budget
unfoldable pub header_encoding : Header → List ℕ
header_encoding h = trace_magic h.profile ++ h.threads ∷ h.objects ∷ [] ++ little_bytes 2 0 ++ little_bytes 8 h.budget

-- the whole trace
abbrev pub encoding : Recorded → List ℕ
encoding r = header_encoding (header_of r) ++ flat_map thread_encoding r.threads
