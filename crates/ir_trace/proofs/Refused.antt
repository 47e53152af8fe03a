-- The fault of a trace is the first of its fields'.
use Rattle.std.proofs.Common.{◌≡◌, ℕ, zero, suc, ◌<◌, false, eqb, List, length, Option, Some, None, Result, Ok, Err, refl, ◌∙◌, arith}
use Rattle.std.specs.Prelude.{◌==◌, if◌then◌else◌, is_some, nat_le}
use Rattle.std.proofs.lemmas.Bool.{le-leb, lt-leb, ne_eqb}
use Rattle.ir_bytes.specs.Reading.{◌>>=◌, Reader, judged, number_at, field_at, fields_at}
use Rattle.ir_bytes.specs.Format.{Format, finished, next, before, repeated, first_refused, fault_of, plain}
use Rattle.ir_bytes.proofs.CallerLemmas.{after_reading, Follows, Begins, Refuses, field_at_follows_field, field_at_begins, number_at_begins}
use Rattle.ir_bytes.proofs.CallerLemmas.{sequence_follows_fields, sequence_begins, sequence_begins_by_rest, sequence_refuses_format}
use Rattle.ir_bytes.proofs.CallerLemmas.{rest_refuses_format, fault_of_trailing_test, fields_at_begins}
use Rattle.ir_runs.specs.declared.env_kind.EnvKind.{EnvKind}
use Rattle.ir_runs.specs.declared.env_kind.EnvKind.TheVariants.{Clock, Random, Input}
use Rattle.ir_thread.specs.State.{end_of}
use Rattle.ir_thread.specs.declared.end.End.{End}
use Rattle.ir_thread.specs.declared.profile.Profile.{Profile}
use Rattle.ir_thread.specs.declared.profile.Profile.TheVariants.{One, Two}
use Rattle.ir_log.specs.declared.event.Event.{Event}
use Rattle.ir_log.specs.declared.event.Event.TheVariants.{Answer, Read, Write, Try}
use Rattle.ir_trace.specs.declared.header.Header.{Header}
use Rattle.ir_trace.specs.declared.trace_err.TraceErr.{TraceErr}
use Rattle.ir_trace.specs.declared.trace_err.TraceErr.TheVariants.{Short, Range, Trailing}
use Rattle.ir_trace.specs.Recorded.{RecordedThread, Recorded, profile_at, header_at, end_by, end_at, answer_at, input_at, read_at, write_at}
use Rattle.ir_trace.specs.Recorded.{try_at, try_by, event_by, event_reading, thread_part_at, recorded_at}
use Rattle.ir_trace.specs.Results.{code_field, tag_field, last_tag}
use Rattle.ir_trace.specs.Fields.{tagged_fields, event_fields, thread_fields, trace_fault, trace_magic_field, trace_threads_field}
use Rattle.ir_trace.specs.Fields.{trace_objects_field, reserved_field, budget_field, end_field, events_field, input_field, profile_of}
use Rattle.ir_trace.specs.Fields.{object_field}

-- ---- what comes before the threads

abbrev header_by : Profile → ℕ → ℕ → ℕ → Header
header_by p n m b = record { profile = p; threads = n; objects = m; budget = b }

-- the profile, and what follows it
abbrev profile_fields : (Profile → Format TraceErr) → Format TraceErr
profile_fields after = next trace_magic_field λ g. after (profile_of g)

profile_at_follows : Follows Short Trailing profile_at profile_fields
unfolding profile_at
profile_at_follows =
    sequence_follows_fields Short Trailing (field_at Short trace_magic_field) (next trace_magic_field) (λ g b0. Ok (profile_of g, b0))
    (λ g after. after (profile_of g)) (field_at_follows_field Short Trailing trace_magic_field) (λ g after b0. refl)

abbrev header_fields : (Header → Format TraceErr) → Format TraceErr
header_fields after = profile_fields λ p.
    next (trace_threads_field p) λ n. next (trace_objects_field p) λ m. before reserved_field (next budget_field λ b. after (header_by p n m b))

header_at_follows : Follows Short Trailing header_at header_fields
unfolding header_at
header_at_follows =
    sequence_follows_fields Short Trailing profile_at profile_fields
    (λ p b0. field_at Short (trace_threads_field p) b0 >>= λ n. field_at Short (trace_objects_field p) n.1 >>= λ m. field_at Short reserved_field m.1 >>=
    λ r. field_at Short budget_field r.1 >>= λ b. Ok (header_by p n.0 m.0 b.0, b.1))
    (λ p after. next (trace_threads_field p) λ n. next (trace_objects_field p) λ m. before reserved_field (next budget_field λ b. after (header_by p n m b)))
    profile_at_follows (λ p.
    sequence_follows_fields Short Trailing (field_at Short (trace_threads_field p)) (next (trace_threads_field p))
    (λ n b1. field_at Short (trace_objects_field p) b1 >>= λ m. field_at Short reserved_field m.1 >>= λ r. field_at Short budget_field r.1 >>= λ b.
    Ok (header_by p n m.0 b.0, b.1))
    (λ n after. next (trace_objects_field p) λ m. before reserved_field (next budget_field λ b. after (header_by p n m b)))
    (field_at_follows_field Short Trailing (trace_threads_field p)) (λ n.
    sequence_follows_fields Short Trailing (field_at Short (trace_objects_field p)) (next (trace_objects_field p))
    (λ m b2. field_at Short reserved_field b2 >>= λ r. field_at Short budget_field r.1 >>= λ b. Ok (header_by p n m b.0, b.1))
    (λ m after. before reserved_field (next budget_field λ b. after (header_by p n m b)))
    (field_at_follows_field Short Trailing (trace_objects_field p)) (λ m.
    sequence_follows_fields Short Trailing (field_at Short reserved_field) (next reserved_field)
    (λ _ b3. field_at Short budget_field b3 >>= λ b. Ok (header_by p n m b.0, b.1))
    (λ _ after. next budget_field λ b. after (header_by p n m b))
    (field_at_follows_field Short Trailing reserved_field) (λ _.
    sequence_follows_fields Short Trailing (field_at Short budget_field) (next budget_field)
    (λ b b4. Ok (header_by p n m b, b4))
    (λ b after. after (header_by p n m b))
    (field_at_follows_field Short Trailing budget_field) (λ b after b4. refl)))))

-- ---- an end

end_test_fault_by_end : (o : Option End) (c : ℕ × List ℕ) (later : List ℕ → Option TraceErr)
    → after_reading (judged (if is_some o then None else Some Range) c) (λ x. later x.1) ≡ after_reading (end_by o c.1) (λ x. later x.1)
end_test_fault_by_end (Some e) c later = refl
end_test_fault_by_end None c later = refl

code_field_fault_by_end : (n : ℕ) (r : Result (ℕ × List ℕ) TraceErr) (later : List ℕ → Option TraceErr)
    → after_reading (r >>= λ c. judged ((code_field n).fault c.0) c) (λ x. later x.1)
    ≡ after_reading (r >>= λ c. end_by (end_of n c.0) c.1) (λ x. later x.1)
code_field_fault_by_end n (Ok c) later = end_test_fault_by_end (end_of n c.0) c later
code_field_fault_by_end n (Err e) later = refl

abbrev code_at : ℕ → Reader End TraceErr
code_at n bytes = number_at Short 4 bytes >>= λ code. end_by (end_of n code.0) code.1

code_at_begins : (n : ℕ) → Begins Short Trailing (code_at n) (before (code_field n))
unfolding field_at
code_at_begins n rest bytes = field_at_begins Short Trailing (code_field n) rest bytes ∙ code_field_fault_by_end n (number_at Short 4 bytes)
    (first_refused Short Trailing rest)

end_at_begins : Begins Short Trailing end_at (λ rest. next end_field λ n. before (code_field n) rest)
unfolding end_at
end_at_begins = sequence_begins Short Trailing (field_at Short end_field) (next end_field) code_at (λ n. before (code_field n))
    (field_at_follows_field Short Trailing end_field) code_at_begins

-- ---- an event

-- a field, and nothing more is read
mapped_reader_begins : {X Y : Type 0} (r : Reader X TraceErr) (one : Format TraceErr → Format TraceErr) (make : X → Y)
    → Begins Short Trailing r one → Begins Short Trailing (λ bytes. r bytes >>= λ x. Ok (make x.0, x.1)) one
mapped_reader_begins r one make p = sequence_begins_by_rest Short Trailing r one (λ x bytes. Ok (make x, bytes)) (λ rest. rest) p (λ x rest bytes. refl)

answer_at_begins : (kind : EnvKind) → Begins Short Trailing (answer_at kind) (before (plain 4))
unfolding answer_at
answer_at_begins kind = mapped_reader_begins (number_at Short 4) (before (plain 4)) (Answer kind) (number_at_begins Short Trailing 4)

input_at_begins : Begins Short Trailing input_at (before input_field)
unfolding input_at
input_at_begins = mapped_reader_begins (field_at Short input_field) (before input_field) (Answer Input) (field_at_begins Short Trailing input_field)

read_at_begins : (objects : ℕ) → Begins Short Trailing (read_at objects) (λ rest. before (object_field objects) (before (plain 4) rest))
unfolding read_at
read_at_begins objects =
    sequence_begins_by_rest Short Trailing (field_at Short (object_field objects)) (before (object_field objects))
    (λ o bytes. number_at Short 4 bytes >>= λ v. Ok (Read o v.0, v.1)) (before (plain 4))
    (field_at_begins Short Trailing (object_field objects))
    (λ o. mapped_reader_begins (number_at Short 4) (before (plain 4)) (Read o) (number_at_begins Short Trailing 4))

write_at_begins : (objects : ℕ)
    → Begins Short Trailing (write_at objects) (λ rest. before (object_field objects) (before (plain 4) (before (plain 4) rest)))
unfolding write_at
write_at_begins objects =
    sequence_begins_by_rest Short Trailing (field_at Short (object_field objects)) (before (object_field objects))
    (λ o bytes. number_at Short 4 bytes >>= λ v. number_at Short 4 v.1 >>= λ n. Ok (Write o v.0 n.0, n.1))
    (λ rest. before (plain 4) (before (plain 4) rest))
    (field_at_begins Short Trailing (object_field objects)) (λ o.
    sequence_begins_by_rest Short Trailing (number_at Short 4) (before (plain 4))
    (λ v bytes. number_at Short 4 bytes >>= λ n. Ok (Write o v n.0, n.1)) (before (plain 4))
    (number_at_begins Short Trailing 4)
    (λ v. mapped_reader_begins (number_at Short 4) (before (plain 4)) (Write o v) (number_at_begins Short Trailing 4)))

abbrev number_and_bytes : ℕ → List ℕ → ℕ × List ℕ
number_and_bytes tag bytes = (tag, bytes)

-- what follows a tag that was read is its fields, or it is none
abbrev FaultAfterTag : Profile → ℕ → ℕ → List ℕ → Format TraceErr → Type 0
FaultAfterTag profile objects tag bytes rest =
    after_reading (judged ((tag_field profile).fault tag) (number_and_bytes tag bytes)) (λ x. first_refused Short Trailing (tagged_fields objects x.0 rest) x.1)
    ≡ after_reading (event_by profile tag objects bytes) (λ x. first_refused Short Trailing rest x.1)

greater_is_unequal : (tag k : ℕ) → k < tag → eqb tag k ≡ false
greater_is_unequal tag k lt = ne_eqb tag k (λ e. omega (arith, e))

fault_after_unknown_tag : (profile : Profile) (objects tag : ℕ) (bytes : List ℕ) (rest : Format TraceErr) → 6 < tag
    → nat_le tag (last_tag profile) ≡ false → FaultAfterTag profile objects tag bytes rest
unfolding event_by
fault_after_unknown_tag profile objects tag bytes rest h over =
    rw (
      le-leb 1 tag (omega arith),
      over,
      greater_is_unequal tag 1 (omega arith),
      greater_is_unequal tag 2 (omega arith),
      greater_is_unequal tag 3 (omega arith),
      greater_is_unequal tag 4 (omega arith),
      greater_is_unequal tag 5 (omega arith),
      greater_is_unequal tag 6 h,
    ) refl

tag_over_last : (profile : Profile) (tag : ℕ) → 6 < tag → nat_le tag (last_tag profile) ≡ false
tag_over_last One tag h = lt-leb tag 5 (omega arith)
tag_over_last Two tag h = lt-leb tag 6 h

try_at_begins : (objects : ℕ) → Begins Short Trailing (try_at objects) (before (object_field objects))
unfolding try_at
try_at_begins objects = mapped_reader_begins (field_at Short (object_field objects)) (before (object_field objects)) Try
    (field_at_begins Short Trailing (object_field objects))

fault_after_try_tag : (profile : Profile) (objects : ℕ) (bytes : List ℕ) (rest : Format TraceErr) → FaultAfterTag profile objects 6 bytes rest
unfolding event_by try_by
fault_after_try_tag One objects bytes rest = refl
fault_after_try_tag Two objects bytes rest = try_at_begins objects rest bytes

-- each tag of either profile
fault_after_tag : (profile : Profile) (objects tag : ℕ) (bytes : List ℕ) (rest : Format TraceErr) → FaultAfterTag profile objects tag bytes rest
unfolding event_by
fault_after_tag One objects zero bytes rest = refl
fault_after_tag Two objects zero bytes rest = refl
fault_after_tag One objects (suc zero) bytes rest = answer_at_begins Clock rest bytes
fault_after_tag Two objects (suc zero) bytes rest = answer_at_begins Clock rest bytes
fault_after_tag One objects (suc (suc zero)) bytes rest = answer_at_begins Random rest bytes
fault_after_tag Two objects (suc (suc zero)) bytes rest = answer_at_begins Random rest bytes
fault_after_tag One objects (suc (suc (suc zero))) bytes rest = input_at_begins rest bytes
fault_after_tag Two objects (suc (suc (suc zero))) bytes rest = input_at_begins rest bytes
fault_after_tag One objects (suc (suc (suc (suc zero)))) bytes rest = read_at_begins objects rest bytes
fault_after_tag Two objects (suc (suc (suc (suc zero)))) bytes rest = read_at_begins objects rest bytes
fault_after_tag One objects (suc (suc (suc (suc (suc zero))))) bytes rest = write_at_begins objects rest bytes
fault_after_tag Two objects (suc (suc (suc (suc (suc zero))))) bytes rest = write_at_begins objects rest bytes
fault_after_tag profile objects (suc (suc (suc (suc (suc (suc zero)))))) bytes rest = fault_after_try_tag profile objects bytes rest
fault_after_tag profile objects (suc (suc (suc (suc (suc (suc (suc tag))))))) bytes rest =
    fault_after_unknown_tag profile objects (suc (suc (suc (suc (suc (suc (suc tag))))))) bytes rest (omega arith)
    (tag_over_last profile (suc (suc (suc (suc (suc (suc (suc tag))))))) (omega arith))

fault_after_read_tag : (profile : Profile) (objects : ℕ) (r : Result (ℕ × List ℕ) TraceErr) (rest : Format TraceErr)
    → after_reading (r >>= λ n. judged ((tag_field profile).fault n.0) n) (λ x. first_refused Short Trailing (tagged_fields objects x.0 rest) x.1)
    ≡ after_reading (r >>= λ n. event_by profile n.0 objects n.1) (λ x. first_refused Short Trailing rest x.1)
fault_after_read_tag profile objects (Ok n) rest = fault_after_tag profile objects n.0 n.1 rest
fault_after_read_tag profile objects (Err e) rest = refl

event_at_begins : (profile : Profile) (objects : ℕ) → Begins Short Trailing (event_reading profile objects) (event_fields profile objects)
unfolding event_reading field_at
event_at_begins profile objects rest bytes = field_at_follows_field Short Trailing (tag_field profile) (λ tag. tagged_fields objects tag rest) bytes ∙ fault_after_read_tag profile objects
    (number_at Short 1 bytes) rest

-- ---- a thread

abbrev recorded_thread_by : ℕ → End → List Event → RecordedThread
recorded_thread_by steps ended events = record { steps = steps; end = ended; events = events }

thread_at_begins : (profile : Profile) (objects : ℕ) → Begins Short Trailing (thread_part_at profile objects) (thread_fields profile objects)
unfolding thread_part_at
thread_at_begins profile objects =
    sequence_begins_by_rest Short Trailing (number_at Short 8) (before (plain 8))
    (λ steps b0. end_at b0 >>= λ ended. field_at Short events_field ended.1 >>= λ count. fields_at (event_reading profile objects) count.0 count.1 >>=
    λ events. Ok (recorded_thread_by steps ended.0 events.0, events.1))
    (λ rest. next end_field λ n. before (code_field n) (next events_field λ count. repeated count (event_fields profile objects) rest))
    (number_at_begins Short Trailing 8) (λ steps.
    sequence_begins_by_rest Short Trailing end_at (λ rest. next end_field λ n. before (code_field n) rest)
    (λ ended b1. field_at Short events_field b1 >>= λ count. fields_at (event_reading profile objects) count.0 count.1 >>= λ events. Ok
    (recorded_thread_by steps ended events.0, events.1))
    (λ rest. next events_field λ count. repeated count (event_fields profile objects) rest)
    end_at_begins (λ ended.
    sequence_begins Short Trailing (field_at Short events_field) (next events_field)
    (λ count b2. fields_at (event_reading profile objects) count b2 >>= λ events. Ok (recorded_thread_by steps ended events.0, events.1))
    (λ count. repeated count (event_fields profile objects))
    (field_at_follows_field Short Trailing events_field) (λ count.
    mapped_reader_begins (fields_at (event_reading profile objects) count) (repeated count (event_fields profile objects)) (recorded_thread_by steps ended)
    (fields_at_begins Short Trailing (event_reading profile objects) (event_fields profile objects) count (event_at_begins profile objects)))))

-- ---- the whole trace

abbrev threads_fields : Header → Format TraceErr
threads_fields h = repeated h.threads (thread_fields h.profile h.objects) finished

abbrev recorded_by : Header → List RecordedThread → Recorded
recorded_by h threads = record { objects = h.objects; budget = h.budget; profile = h.profile; threads = threads }

threads_refuse_format : (h : Header)
    → Refuses Short Trailing (λ bytes. fields_at (thread_part_at h.profile h.objects) h.threads bytes >>= λ threads. if length threads.1 == 0 then Ok
    (recorded_by h threads.0) else Err Trailing) (threads_fields h)
threads_refuse_format h =
    rest_refuses_format Short Trailing (fields_at (thread_part_at h.profile h.objects) h.threads) (repeated h.threads (thread_fields h.profile h.objects))
    (λ threads rest. if length rest == 0 then Ok (recorded_by h threads) else Err Trailing) finished
    (fields_at_begins Short Trailing (thread_part_at h.profile h.objects) (thread_fields h.profile h.objects) h.threads (thread_at_begins h.profile h.objects))
    (λ threads rest. fault_of_trailing_test Trailing (recorded_by h threads) (eqb (length rest) 0))

pub trace_fault_is_first : (bytes : List ℕ) → fault_of (recorded_at bytes) ≡ trace_fault bytes
unfolding recorded_at
trace_fault_is_first =
    sequence_refuses_format Short Trailing header_at header_fields
    (λ h bytes. fields_at (thread_part_at h.profile h.objects) h.threads bytes >>= λ threads. if length threads.1 == 0 then Ok (recorded_by h threads.0)
    else Err Trailing)
    threads_fields header_at_follows threads_refuse_format
