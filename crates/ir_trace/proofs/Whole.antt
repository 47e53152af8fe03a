-- What is read is encoded so, and what is encoded so is read.
use Rattle.std.proofs.Common.{◌≡◌, ℕ, ◌<◌, ◌≤◌, cond, eqb, List, [], ◌∷◌, ◌++◌, length, slice_index, Ok, Err, refl, sym, ap, subst, ◌∙◌, append_assoc, arith}
use Rattle.std.specs.List.{flat_map}
use Rattle.std.proofs.lemmas.Bool.{eqb-true}
use Rattle.std.proofs.lemmas.List.{append-nil, nil_from_length}
use Rattle.byteorder.specs.Endian.{little_bytes}
use Rattle.ir_bytes.specs.Reading.{number_at, field_at, fields_at}
use Rattle.ir_bytes.proofs.CallerLemmas.{three_binds_are_ok, five_binds_are_ok, six_binds_are_ok, test_passed_if_ok, ok_is_injective}
use Rattle.ir_bytes.proofs.CallerLemmas.{number_within, within_has_no_fault, IsBytes, is_bytes_by_elements, Takes, takes_append}
use Rattle.ir_bytes.proofs.CallerLemmas.{number_at_takes_number, number_at-little_bytes, TakesField, field_at_takes_field}
use Rattle.ir_bytes.proofs.CallerLemmas.{field_at-little_bytes, takes_single_byte, field_at_of_byte, TakesFields, fields_at_takes_fields}
use Rattle.ir_bytes.proofs.CallerLemmas.{fields_at_of_encodings}
use Rattle.ir_image.specs.Guest.{limits_of}
use Rattle.ir_thread.specs.State.{largest, most_budget, most_events}
use Rattle.ir_thread.specs.declared.end.End.{End}
use Rattle.ir_thread.specs.declared.profile.Profile.{Profile}
use Rattle.ir_log.specs.declared.event.Event.{Event}
use Rattle.ir_trace.specs.declared.header.Header.{Header}
use Rattle.ir_trace.specs.declared.trace_err.TraceErr.{TraceErr}
use Rattle.ir_trace.specs.declared.trace_err.TraceErr.TheVariants.{Short, Count, Trailing}
use Rattle.ir_trace.specs.Recorded.{RecordedThread, Recorded, trace_magic, profile_at, header_at, end_at, event_reading, thread_part_at, recorded_at}
use Rattle.ir_trace.specs.Bounds.{IsEvent, IsRecordedThread, IsRecorded}
use Rattle.ir_trace.specs.Fields.{trace_threads_field, trace_objects_field, reserved_field, budget_field, events_field}
use Rattle.ir_trace.specs.Encoding.{event_encoding, end_encoding, thread_encoding, header_of, header_encoding, encoding}
use Rattle.ir_trace.proofs.EventLaws.{event_at_takes_event, event_at_of_encoding}
use Rattle.ir_trace.proofs.Taken.{profile_at_takes_magic, profile_at_of_magic, reserved_takes_zero, reserved_field_of_zero, end_at_takes_end, end_at_of_encoding}

-- ---- what comes before the threads

-- a header within its limits
record IsWithin (h : Header) : Type 0 where
  some_thread : 1 ≤ h.threads
  few_threads : h.threads ≤ (limits_of (largest h.profile)).threads
  few_objects : h.objects ≤ (limits_of (largest h.profile)).objects
  budget_fits : h.budget ≤ most_budget

-- what reading the header takes
record TakesHeader (all : List ℕ) (x : Header × List ℕ) : Type 0 where
  takes : Takes all (header_encoding x.0) x.1
  within : IsWithin x.0

header_fields_take_header : (all : List ℕ) (first : Profile × List ℕ) (threads objects reserved budget : ℕ × List ℕ) → Takes all (trace_magic first.0) first.1
    → TakesField (trace_threads_field first.0) first.1 threads → TakesField (trace_objects_field first.0) threads.1 objects
    → Takes objects.1 (little_bytes 2 0) reserved.1 → TakesField budget_field reserved.1 budget
    → TakesHeader all (record { profile = first.0; threads = threads.0; objects = objects.0; budget = budget.0 }, budget.1)
unfolding header_encoding
header_fields_take_header all first threads objects reserved budget t0 t1 t2 t3 t4 =
    let n = number_within 1 (limits_of (largest first.0)).threads threads.0 Count t1.passes in
    let m = number_within 0 (limits_of (largest first.0)).objects objects.0 Count t2.passes in
    let b = number_within 0 most_budget budget.0 Count t4.passes in
    let counts = takes_append first.1 (threads.0 ∷ []) threads.1 (objects.0 ∷ []) objects.1 (takes_single_byte first.1 threads t1.takes t1.fits)
    (takes_single_byte threads.1 objects t2.takes t2.fits) in
    let prefix = takes_append all (trace_magic first.0) first.1 (threads.0 ∷ objects.0 ∷ []) objects.1 t0 counts in
    let second = takes_append all (trace_magic first.0 ++ (threads.0 ∷ objects.0 ∷ [])) objects.1 (little_bytes 2 0) reserved.1 prefix t3 in
    record {
      takes = takes_append all (trace_magic first.0 ++ (threads.0 ∷ objects.0 ∷ []) ++ little_bytes 2 0) reserved.1 (little_bytes 8 budget.0) budget.1
          second t4.takes;
      within = record { some_thread = n.0; few_threads = n.1; few_objects = m.1; budget_fits = b.1 };
    }

header_at_takes_header : (all : List ℕ) (x : Header × List ℕ) → IsBytes all → header_at all ≡ Ok x → TakesHeader all x
unfolding header_at
header_at_takes_header all x fits e =
    six_binds_are_ok (profile_at all) (λ first. field_at Short (trace_threads_field first.0) first.1)
    (λ first threads. field_at Short (trace_objects_field first.0) threads.1)
    (λ first threads objects. field_at Short reserved_field objects.1)
    (λ first threads objects reserved. field_at Short budget_field reserved.1)
    (λ first threads objects reserved budget. Ok (record { profile = first.0; threads = threads.0; objects = objects.0; budget = budget.0 }, budget.1)) x e
    (λ first threads objects reserved budget e0 e1 e2 e3 e4 e5.
    let t0 = profile_at_takes_magic all first fits e0 in
    let t1 = field_at_takes_field Short (trace_threads_field first.0) first.1 threads t0.rest_fits e1 in
    let t2 = field_at_takes_field Short (trace_objects_field first.0) threads.1 objects t1.takes.rest_fits e2 in
    let t3 = reserved_takes_zero objects.1 reserved t2.takes.rest_fits e3 in
    let t4 = field_at_takes_field Short budget_field reserved.1 budget t3.rest_fits e4 in
    subst (λ (y : Header × List ℕ). TakesHeader all y)
    (ok_is_injective TraceErr (record { profile = first.0; threads = threads.0; objects = objects.0; budget = budget.0 }, budget.1) x e5)
    (header_fields_take_header all first threads objects reserved budget t0 t1 t2 t3 t4))

append_assoc_with_rest : (a b c d rest : List ℕ) → (a ++ b ++ c ++ d) ++ rest ≡ a ++ (b ++ (c ++ (d ++ rest)))
append_assoc_with_rest a b c d rest = simp append_assoc

header_at_of_encoding : (h : Header) (rest : List ℕ) → IsWithin h → header_at (header_encoding h ++ rest) ≡ Ok (h, rest)
unfolding header_at header_encoding
header_at_of_encoding h rest within =
    let r2 = little_bytes 8 h.budget ++ rest in
    let r1 = little_bytes 2 0 ++ r2 in
    let e0 = profile_at_of_magic h.profile (h.threads ∷ h.objects ∷ r1) in
    let e1 = field_at_of_byte Short (trace_threads_field h.profile) h.threads (h.objects ∷ r1) refl
    (within_has_no_fault 1 (limits_of (largest h.profile)).threads h.threads Count within.some_thread within.few_threads) in
    let e2 = field_at_of_byte Short (trace_objects_field h.profile) h.objects r1 refl
    (within_has_no_fault 0 (limits_of (largest h.profile)).objects h.objects Count (omega arith) within.few_objects)
    in
    let e3 = reserved_field_of_zero r2 in
    let e4 = field_at-little_bytes Short budget_field h.budget rest (omega (arith, within.budget_fits))
    (within_has_no_fault 0 most_budget h.budget Count (omega arith) within.budget_fits) in
    ap header_at (append_assoc_with_rest (trace_magic h.profile) (h.threads ∷ h.objects ∷ []) (little_bytes 2 0) (little_bytes 8 h.budget) rest)
    ∙ rw (e0, e1, e2, e3, e4) refl

-- ---- a thread

-- what reading a thread takes
abbrev TakesThread : Profile → ℕ → List ℕ → RecordedThread × List ℕ → Type 0
TakesThread profile objects bytes x = Takes bytes (thread_encoding x.0) x.1 × IsRecordedThread profile objects x.0

thread_fields_take_thread : (profile : Profile) (objects : ℕ) (all : List ℕ) (steps : ℕ × List ℕ) (ended : End × List ℕ) (count : ℕ × List ℕ)
    (events : List Event × List ℕ) → IsBytes all
    → number_at Short 8 all ≡ Ok steps → end_at steps.1 ≡ Ok ended → field_at Short events_field ended.1 ≡ Ok count
    → fields_at (event_reading profile objects) count.0 count.1 ≡ Ok events
    → TakesThread profile objects all (record { steps = steps.0; end = ended.0; events = events.0 }, events.1)
unfolding thread_encoding
thread_fields_take_thread profile objects all steps ended count events fits e0 e1 e2 e3 =
    let t0 = number_at_takes_number Short 8 all steps fits e0 in
    let t1 = end_at_takes_end steps.1 ended t0.0.rest_fits e1 in
    let t2 = field_at_takes_field Short events_field ended.1 count t1.0.rest_fits e2 in
    let n = number_within 0 most_events count.0 Count t2.passes in
    let t3 = fields_at_takes_fields (IsEvent profile objects) event_encoding (event_reading profile objects) (event_at_takes_event profile objects) count.0 count.1 events
    t2.takes.rest_fits e3 in
    let counted : Takes ended.1 (little_bytes 4 (length events.0)) count.1 = subst (λ (k : ℕ). Takes ended.1 (little_bytes 4 k) count.1)
    (sym t3.count) t2.takes in
    let first = takes_append all (little_bytes 8 steps.0) steps.1 (end_encoding ended.0) ended.1 t0.0 t1.0 in
    let second = takes_append all (little_bytes 8 steps.0 ++ end_encoding ended.0) ended.1 (little_bytes 4 (length events.0)) count.1 first
    counted in (
      takes_append all (little_bytes 8 steps.0 ++ end_encoding ended.0 ++ little_bytes 4 (length events.0)) count.1
          (flat_map event_encoding events.0) events.1 second t3.takes,
      record {
        steps_fit = t0.1;
        code_fits = t1.1;
        few_events = subst (λ (k : ℕ). k ≤ most_events) (sym t3.count) n.1;
        events_fit =
            t3.fit;
      },
    )

thread_at_takes_thread : (profile : Profile) (objects : ℕ) (bytes : List ℕ) (x : RecordedThread × List ℕ) → IsBytes bytes → thread_part_at profile objects bytes ≡ Ok x
    → TakesThread profile objects bytes x
unfolding thread_part_at
thread_at_takes_thread profile objects bytes x fits e =
    five_binds_are_ok (number_at Short 8 bytes) (λ steps. end_at steps.1) (λ steps ended. field_at Short events_field ended.1)
    (λ steps ended count. fields_at (event_reading profile objects) count.0 count.1)
    (λ steps ended count events. Ok (record { steps = steps.0; end = ended.0; events = events.0 }, events.1)) x e
    (λ steps ended count events e0 e1 e2 e3 e4.
    subst (TakesThread profile objects bytes) (ok_is_injective TraceErr (record { steps = steps.0; end = ended.0; events = events.0 }, events.1) x e4)
    (thread_fields_take_thread profile objects bytes steps ended count events fits e0 e1 e2 e3))

thread_at_of_encoding : (profile : Profile) (objects : ℕ) (t : RecordedThread) (rest : List ℕ) → IsRecordedThread profile objects t
    → thread_part_at profile objects (thread_encoding t ++ rest) ≡ Ok (t, rest)
unfolding thread_part_at thread_encoding
thread_at_of_encoding profile objects t rest fits =
    let r3 = flat_map event_encoding t.events ++ rest in
    let r2 = little_bytes 4 (length t.events) ++ r3 in
    let r1 = end_encoding t.end ++ r2 in
    let e0 = number_at-little_bytes Short 8 t.steps r1 fits.steps_fit in
    let e1 = end_at_of_encoding t.end r2 fits.code_fits in
    let e2 = field_at-little_bytes Short events_field (length t.events) r3 (omega (arith, fits.few_events))
    (within_has_no_fault 0 most_events (length t.events) Count (omega arith) fits.few_events) in
    let e3 = fields_at_of_encodings (IsEvent profile objects) event_encoding (event_reading profile objects) (event_at_of_encoding profile objects) t.events rest fits.events_fit in
    ap (thread_part_at profile objects) (append_assoc_with_rest (little_bytes 8 t.steps) (end_encoding t.end) (little_bytes 4 (length t.events))
    (flat_map event_encoding t.events) rest) ∙ rw (e0, e1, e2, e3) refl

-- ---- the whole trace

-- what reading the threads after a header takes
abbrev TakesThreads : Header → List ℕ → List RecordedThread × List ℕ → Type 0
TakesThreads h bytes x = TakesFields (IsRecordedThread h.profile h.objects) thread_encoding h.threads bytes x

threads_reader_takes : (h : Header) (bytes : List ℕ) (x : List RecordedThread × List ℕ) → IsBytes bytes
    → fields_at (thread_part_at h.profile h.objects) h.threads bytes ≡ Ok x → TakesThreads h bytes x
threads_reader_takes h bytes x fits e = fields_at_takes_fields (IsRecordedThread h.profile h.objects) thread_encoding (thread_part_at h.profile h.objects) (thread_at_takes_thread h.profile h.objects)
    h.threads bytes x fits e

abbrev recorded_by : Header → List RecordedThread → Recorded
recorded_by h threads = record { objects = h.objects; budget = h.budget; profile = h.profile; threads = threads }

header_of_recorded_by : (h : Header) (threads : List RecordedThread) → length threads ≡ h.threads → header_of (recorded_by h threads) ≡ h
header_of_recorded_by h threads n = λ i. record { profile = h.profile; threads = n i; objects = h.objects; budget = h.budget }

parts_take_recorded : (all : List ℕ) (x : Header × List ℕ) (threads : List RecordedThread × List ℕ) → TakesHeader all x
    → TakesThreads x.0 x.1 threads → threads.1 ≡ []
    → IsRecorded (recorded_by x.0 threads.0) × (all ≡ encoding (recorded_by x.0 threads.0))
parts_take_recorded all x threads t u nothing =
    let last : x.1 ≡ flat_map thread_encoding threads.0 = u.takes.parts ∙ ap (λ (k : List ℕ). flat_map thread_encoding threads.0 ++ k)
    nothing ∙ append-nil (flat_map thread_encoding threads.0) in (
      record {
        some_thread = omega (arith, u.count, t.within.some_thread);
        few_threads = omega (arith, u.count, t.within.few_threads);
        few_objects = t.within.few_objects;
        budget_fits = t.within.budget_fits;
        threads_fit = u.fit;
      },
      t.takes.parts ∙ ap (λ (k : List ℕ). header_encoding x.0 ++ k) last ∙ ap
          (λ (h : Header). header_encoding h ++ flat_map thread_encoding threads.0) (sym (header_of_recorded_by x.0 threads.0 u.count)),
    )

pub recorded_at_takes : (all : List ℕ) (r : Recorded) → IsBytes all → recorded_at all ≡ Ok r → IsRecorded r × (all ≡ encoding r)
unfolding recorded_at
recorded_at_takes all r fits e =
    three_binds_are_ok (header_at all) (λ h. fields_at (thread_part_at h.0.profile h.0.objects) h.0.threads h.1)
    (λ h threads. cond (eqb (length threads.1) 0) (Ok (recorded_by h.0 threads.0)) (Err Trailing)) r e (λ h threads e0 e1 e2.
    let t = header_at_takes_header all h fits e0 in
    let g = test_passed_if_ok (eqb (length threads.1) 0) Trailing (recorded_by h.0 threads.0) r e2 in
    subst (λ (y : Recorded). IsRecorded y × (all ≡ encoding y)) g.1
    (parts_take_recorded all h threads t (threads_reader_takes h.0 h.1 threads t.takes.rest_fits e1)
    (nil_from_length threads.1 (eqb-true (length threads.1) 0 g.0))))

-- what the parts of a trace say of it
pub read_parts_take_recorded : (all : List ℕ) (h : Header) (rest : List ℕ) (threads : List RecordedThread) (after : List ℕ)
    → ((i : ℕ) → slice_index all i < 256) → header_at all ≡ Ok (h, rest)
    → fields_at (thread_part_at h.profile h.objects) h.threads rest ≡ Ok (threads, after) → after ≡ []
    → IsRecorded (recorded_by h threads) × (all ≡ encoding (recorded_by h threads))
read_parts_take_recorded all h rest threads after bytes e0 e1 nothing =
    let fits = is_bytes_by_elements all bytes in
    let t = header_at_takes_header all (h, rest) fits e0 in
    parts_take_recorded all (h, rest) (threads, after) t (threads_reader_takes h rest (threads, after) t.takes.rest_fits e1) nothing

pub recorded_at_of_encoding : (r : Recorded) → IsRecorded r → recorded_at (encoding r) ≡ Ok r
unfolding recorded_at
recorded_at_of_encoding r fits =
    let within : IsWithin (header_of r) = record
    { some_thread = fits.some_thread; few_threads = fits.few_threads; few_objects = fits.few_objects; budget_fits = fits.budget_fits } in
    let own = flat_map thread_encoding r.threads in
    let e0 = header_at_of_encoding (header_of r) own within in
    let e1 : fields_at (thread_part_at r.profile r.objects) (length r.threads) own ≡ Ok (r.threads, []) =
    ap (fields_at (thread_part_at r.profile r.objects) (length r.threads)) (sym (append-nil own)) ∙ fields_at_of_encodings (IsRecordedThread r.profile r.objects)
    thread_encoding (thread_part_at r.profile r.objects) (thread_at_of_encoding r.profile r.objects) r.threads [] fits.threads_fit in
    rw (e0, e1) refl
