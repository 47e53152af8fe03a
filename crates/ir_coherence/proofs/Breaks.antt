-- What the counts of a recorded trace say of its events.
use Rattle.std.proofs.Common.{◌≡◌, ℕ, suc, zero, ◌+◌, ◌<◌, ◌≤◌, inl, inr, Some, None, List, [], ◌∷◌, length, map, get_or, vec_len, refl, sym, ap, ◌∙◌, subst, arith}
use Rattle.std.specs.Prelude.{slice_get}
use Rattle.std.specs.List.{AllByRecursion}
use Rattle.std.proofs.lemmas.Option.{same_Some}
use Rattle.std.proofs.lemmas.List.{length-map}
use Rattle.ir_lemmas.proofs.CallerLemmas.{get_or_satisfies}
use Rattle.ir_thread.specs.State.{most_events}
use Rattle.ir_thread.specs.declared.profile.Profile.{Profile}
use Rattle.ir_runs.specs.Machine.{Label, EnteredAt, Trace}
use Rattle.ir_runs.specs.declared.access.Access.TheVariants.{Writing}
use Rattle.ir_log.specs.Logging.{label_of}
use Rattle.ir_log.specs.declared.event.Event.{Event}
use Rattle.ir_trace.specs.Recorded.{Recorded, RecordedThread, recorded_thread, trace_of}
use Rattle.ir_trace.specs.Bounds.{IsRecorded, IsEvent, IsRecordedThread}
use Rattle.ir_trace.specs.Absent.{absent}
use Rattle.ir_trace.proofs.CallerLemmas.{recorded_threads_within}
use Rattle.ir_runs.specs.Verdicts.{reads}
use Rattle.ir_runs.specs.Coherent.{IsCoherent}
use Rattle.ir_coherence.specs.Counting.{MayStand, writes_among, reads_in, writes_in, reads_of, writes_of, cause_by, CountsMore, CountsAll, HasRoom, FirstCause, NoCause}
use Rattle.ir_runs.specs.Run.{At}
use Rattle.ir_coherence.specs.Breaking.{HasCause, IsFirstBreak}
use Rattle.ir_coherence.specs.Before.{IsBefore}
use Rattle.ir_coherence.specs.declared.cause.Cause.{Cause}
use Rattle.ir_coherence.specs.declared.cause.Cause.TheVariants.{Unmade, Twice, Readers}
use Rattle.ir_coherence.specs.declared.entry_counts.EntryCounts.{EntryCounts}
use Rattle.ir_coherence.proofs.Writes.{HasLogsOfThreads, label_thread_below}
use Rattle.ir_coherence.proofs.Causes.{counted_cause_is_cause, uncounted_is_no_cause, coherent_by_counts}
use Rattle.ir_coherence.proofs.Logs.{reads_at_most_length, writes_at_most_length, sum_below_le_events, sum_below_of_successor}

-- the entries of the first n threads are counted
pub record CountsFirst (r : Recorded) (n : ℕ) (c : EntryCounts) : Type 0 where
  pub objects : vec_len c.objects ≡ r.objects
  pub reads : (o v : ℕ) → reads_of c o v ≡ reads_in n (trace_of r) o v
  pub writes : (o v : ℕ) → writes_of c o v ≡ writes_in n (trace_of r) o v

get_or_past_end : {X : Type 0} (xs : List X) (i : ℕ) (d : X) → length xs ≤ i → get_or xs i d ≡ d
get_or_past_end [] i d l = refl
get_or_past_end (x ∷ xs) zero d l = absurd (omega arith)
get_or_past_end (x ∷ xs) (suc i) d l = get_or_past_end xs i d (omega arith)

pub recorded_thread_fits : (r : Recorded) → IsRecorded r → (i : ℕ) → i < length r.threads → IsRecordedThread r.profile r.objects (recorded_thread r i)
recorded_thread_fits r fits i l = get_or_satisfies (IsRecordedThread r.profile r.objects) r.threads i absent fits.threads_fit l

all_events_may_stand : (profile : Profile) (objects : ℕ) (es : List Event) → AllByRecursion (IsEvent profile objects) es
    → AllByRecursion (MayStand objects) es
all_events_may_stand profile objects [] all = tt
all_events_may_stand profile objects (e ∷ es) all = ((profile, all.0), all_events_may_stand profile objects es all.1)

-- the events of a thread may be in a trace of as many objects as are counted
pub thread_may_stand : (r : Recorded) → IsRecorded r → (i : ℕ) (c : EntryCounts) → i < length r.threads → CountsFirst r i c
    → AllByRecursion (MayStand (vec_len c.objects)) (recorded_thread r i).events
thread_may_stand r fits i c l first = subst (λ n. AllByRecursion (MayStand n) (recorded_thread r i).events) (sym first.objects)
    (all_events_may_stand r.profile r.objects (recorded_thread r i).events (recorded_thread_fits r fits i l).events_fit)

trace_has_thread_logs : (r : Recorded) → HasLogsOfThreads (length r.threads) (trace_of r)
trace_has_thread_logs r t l = ap (λ (x : RecordedThread). map label_of x.events) (get_or_past_end r.threads t absent l)

pub counts_have_room : (r : Recorded) → IsRecorded r → (i : ℕ) (c : EntryCounts) → i < length r.threads → CountsFirst r i c
    → HasRoom c (length (recorded_thread r i).events)
counts_have_room r fits i c l first = record {
  reads = λ o v. omega (
    arith,
    first.reads o v,
    sum_below_le_events i (λ u. reads o v ((trace_of r).logs u))
        (λ u less. omega (arith, reads_at_most_length o v ((trace_of r).logs u), of_thread u (omega arith))),
    (recorded_thread_fits r fits i l).few_events,
    recorded_threads_within r fits,
  );
  writes = λ o v. omega (
    arith,
    first.writes o v,
    sum_below_le_events i (λ u. writes_among o v ((trace_of r).logs u))
        (λ u less. omega (arith, writes_at_most_length o v ((trace_of r).logs u), of_thread u (omega arith))),
    (recorded_thread_fits r fits i l).few_events,
    recorded_threads_within r fits,
  );
}
  where
    of_thread : (u : ℕ) → u < length r.threads → length ((trace_of r).logs u) ≤ most_events
    of_thread u less = omega (arith, length-map (recorded_thread r u).events label_of, (recorded_thread_fits r fits u less).few_events)

pub counts_first_step : (r : Recorded) (i : ℕ) (a b : EntryCounts) → CountsFirst r i a
    → CountsMore a b (map label_of (recorded_thread r i).events) → CountsFirst r (i + 1) b
counts_first_step r i a b first more = record {
  objects = more.objects ∙ first.objects;
  reads = λ o v. omega (arith, more.reads o v, first.reads o v, sum_below_of_successor i (λ u. reads o v ((trace_of r).logs u)));
  writes = λ o v. omega (arith, more.writes o v, first.writes o v, sum_below_of_successor i (λ u. writes_among o v ((trace_of r).logs u)));
}

pub at_of_mapped_label : (es : List Event) (i : ℕ) (e : Event) → slice_get es i ≡ Some e → At (map label_of es) i (label_of e)
at_of_mapped_label [] i e is = absurd (let bad : None ≡ Some e = is in cc)
at_of_mapped_label (x ∷ xs) zero e is = ap label_of (same_Some x e is)
at_of_mapped_label (x ∷ xs) (suc i) e is = at_of_mapped_label xs i e is

pub event_of_label_at : (es : List Event) (i : ℕ) (m : Label) → At (map label_of es) i m → (e : Event) × (slice_get es i ≡ Some e) × (label_of e ≡ m)
event_of_label_at [] i m at = absurd at
event_of_label_at (x ∷ xs) zero m at = (x, refl, at)
event_of_label_at (x ∷ xs) (suc i) m at = event_of_label_at xs i m at

-- the tables' counts name what the trace's counts name
cause_by_counts_is : (n : ℕ) (emitted : Trace) (c : EntryCounts) → CountsAll n emitted c → (m : Label)
    → cause_by (reads_of c) (writes_of c) m ≡ cause_by (reads_in n emitted) (writes_in n emitted) m
cause_by_counts_is n emitted c all m = λ i. cause_by (λ o v. all.reads o v i) (λ o v. all.writes o v i) m

-- what has a cause is in the trace
cause_is_at_label : (n : ℕ) (emitted : Trace) (t i : ℕ) (d : Cause) → HasCause n emitted t i d → (m : Label) × At (emitted.logs t) i m
cause_is_at_label n emitted t i Unmade has = (EnteredAt has.object has.access (suc has.version) has.left, has.entry)
cause_is_at_label n emitted t i Twice has = (EnteredAt has.1.object Writing has.1.version has.1.left, has.1.entry)
cause_is_at_label n emitted t i Readers has = (EnteredAt has.2.object Writing has.2.version has.2.left, has.2.entry)

no_trace_cause : (r : Recorded) (c : EntryCounts) → CountsAll (length r.threads) (trace_of r) c → (t i : ℕ) (m : Label)
    → At ((trace_of r).logs t) i m → ((e : Event) → slice_get (recorded_thread r t).events i ≡ Some e
    → cause_by (reads_of c) (writes_of c) (label_of e) ≡ None)
    → cause_by (reads_in (length r.threads) (trace_of r)) (writes_in (length r.threads) (trace_of r)) m ≡ None
no_trace_cause r c all t i m at none =
    let e = event_of_label_at (recorded_thread r t).events i m at in
    sym (cause_by_counts_is (length r.threads) (trace_of r) c all m) ∙ ap (cause_by (reads_of c) (writes_of c)) (sym e.2) ∙ none e.0 e.1

no_counted_cause : (r : Recorded) (c : EntryCounts) → CountsAll (length r.threads) (trace_of r) c → (t i : ℕ)
    → ((e : Event) → slice_get (recorded_thread r t).events i ≡ Some e → cause_by (reads_of c) (writes_of c) (label_of e) ≡ None)
    → (d : Cause) → HasCause (length r.threads) (trace_of r) t i d → ⊥
no_counted_cause r c all t i none d has =
    let m = cause_is_at_label (length r.threads) (trace_of r) t i d has in
    uncounted_is_no_cause (length r.threads) (trace_of r) (trace_has_thread_logs r) t i m.0 m.1 (no_trace_cause r c all t i m.0 m.1 none) d has

-- where no thread's log has an event with a cause
pub coherent_without_cause : (r : Recorded) (c : EntryCounts) → CountsAll (length r.threads) (trace_of r) c
    → ((t : ℕ) → t < length r.threads → NoCause (reads_of c) (writes_of c) (recorded_thread r t).events)
    → IsCoherent (length r.threads) (trace_of r)
coherent_without_cause r c all none = coherent_by_counts (length r.threads) (trace_of r) (trace_has_thread_logs r)
    (λ t i m at. no_trace_cause r c all t i m at (none t (label_thread_below (length r.threads) (trace_of r) (trace_has_thread_logs r) t i m at) i))

-- the first event with a cause
pub first_break_is_first : (r : Recorded) (c : EntryCounts) → CountsAll (length r.threads) (trace_of r) c → (t i : ℕ) (cause : Cause)
    → ((u : ℕ) → u < t → NoCause (reads_of c) (writes_of c) (recorded_thread r u).events)
    → FirstCause (reads_of c) (writes_of c) (recorded_thread r t).events i cause → IsFirstBreak (length r.threads) (trace_of r) t i cause
first_break_is_first r c all t i cause none found = record {
  breaks = counted_cause_is_cause (length r.threads) (trace_of r) (trace_has_thread_logs r) t i (label_of found.event) cause
      (at_of_mapped_label (recorded_thread r t).events i found.event found.stands)
      (sym (cause_by_counts_is (length r.threads) (trace_of r) c all (label_of found.event)) ∙ found.cause);
  first = λ u j d before has. earlier u j d before has;
}
  where
    earlier : (u j : ℕ) (d : Cause) → IsBefore u j t i → HasCause (length r.threads) (trace_of r) u j d → ⊥
    earlier u j d (inl less) has = no_counted_cause r c all u j (none u less j) d has
    earlier u j d (inr here) has = no_counted_cause r c all u j
        (λ e is. found.first j e here.1 (subst (λ z. slice_get (recorded_thread r z).events j ≡ Some e) here.0 is)) d has
