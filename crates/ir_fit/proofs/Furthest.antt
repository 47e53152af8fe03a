-- Whether a recorded trace is that of a run of a guest's, by the run that follows it furthest.
use Rattle.std.proofs.Common.{◌≡◌, ◌≢◌, ℕ, zero, suc, ◌<◌, ◌≤◌, List, [], ◌∷◌, ◌++◌, ◌⊎◌, length, map, Some, refl, sym, ap, ◌∙◌, subst, arith, inl, inr, get_or}
use Rattle.std.specs.Prelude.{slice_get}
use Rattle.std.specs.List.{AllByRecursion}
use Rattle.std.proofs.lemmas.Bool.{cases_lt}
use Rattle.ir_image.specs.Guest.{Guest}
use Rattle.ir_thread.specs.State.{thread_machine}
use Rattle.ir_runs.specs.Machine.{Label}
use Rattle.ir_thread.proofs.CallerLemmas.{thread_machine_lawful, thread_machine_closing}
use Rattle.ir_flat.specs.Flat.{Flat, start_flat, tables}
use Rattle.ir_runs.specs.Run.{Step, log, At}
use Rattle.ir_runs.specs.Bounds.{trace}
use Rattle.ir_runs.proofs.CallerLemmas.{state_invariant_start, maximal_reach_same_end, AfterThreadEnd, ended_only_leaves}
use Rattle.ir_runs.proofs.CallerLemmas.{done_follower_is_whole, whole_run_follower_done, same_reach_same_verdict, own_trace_is_coherent}
use Rattle.ir_runs.proofs.CallerLemmas.{all_standing_is_maximal, verdict_from_standing, not_same_is_not_done, all_same_is_done}
use Rattle.ir_flat.proofs.CallerLemmas.{guest_start_is_idle}
use Rattle.ir_log.specs.Logging.{label_of}
use Rattle.ir_log.specs.declared.event.Event.{Event}
use Rattle.ir_log.specs.declared.event.Event.TheVariants.{Answer, Read, Write, Try}
use Rattle.ir_thread.specs.declared.profile.Profile.{Profile}
use Rattle.ir_trace.specs.Recorded.{Recorded, RecordedThread, trace_of}
use Rattle.ir_trace.specs.Bounds.{IsRecorded, IsRecordedThread, IsEvent}
use Rattle.ir_trace.specs.Absent.{absent}
use Rattle.ir_coherence.proofs.CallerLemmas.{coherent_is_unbroken}
use Rattle.ir_fit.proofs.Guests.{guest_start_is_start, guest_start_is_live}
use Rattle.ir_coherence.specs.Breaking.{HasCause, IsFirstBreak}
use Rattle.ir_coherence.specs.declared.cause.Cause.{Cause}
use Rattle.ir_fit.specs.Fit.{HasHeader, IsRunOf, GoesFurthest, AreVerdicts, IsRefused}
use Rattle.ir_fit.specs.Within.{BreaksBy}
use Rattle.ir_fit.specs.Follower.{IsFollowed, AreStanding}
use Rattle.ir_runs.specs.Verdicts as following
use Rattle.ir_fit.specs.Growing.{Growing}
use Rattle.ir_runs.specs.Standing.{StandsAs}
use Rattle.ir_runs.specs.Events as events
use Rattle.ir_runs.specs.Coherent.{IsCoherent}
use Rattle.ir_runs.specs.Events.{HoldsEvents}
use Rattle.ir_fit.specs.declared.fit_err.FitErr.{FitErr}
use Rattle.ir_fit.specs.declared.fit_err.FitErr.TheVariants.{NoMem, Refused}
use Rattle.ir_runs.specs.declared.thread_verdict.ThreadVerdict.{ThreadVerdict}
use Rattle.ir_runs.specs.declared.thread_verdict.ThreadVerdict.TheVariants.{Same}
use Rattle.ir_fit.specs.declared.verdict.Verdict.TheVariants as verdict

-- ---- what a trace within its limits holds

event_label_is_event : (code : List ℕ) (profile : Profile) (objects : ℕ) (e : Event) → IsEvent profile objects e → events.IsEvent (thread_machine code) (label_of e)
event_label_is_event code profile objects (Answer kind value) h = h
event_label_is_event code profile objects (Read object version) h = refl
event_label_is_event code profile objects (Write object version readers) h = tt
event_label_is_event code profile objects (Try object) h = tt

event_labels_are_events : (code : List ℕ) (profile : Profile) (objects : ℕ) (es : List Event) → AllByRecursion (IsEvent profile objects) es → (i : ℕ) (k : Label)
    → At (map label_of es) i k → events.IsEvent (thread_machine code) k
event_labels_are_events code profile objects [] all i k h = absurd h
event_labels_are_events code profile objects (e ∷ es) all zero k h = subst (events.IsEvent (thread_machine code)) h (event_label_is_event code profile objects e all.0)
event_labels_are_events code profile objects (e ∷ es) all (suc i) k h = event_labels_are_events code profile objects es all.1 i k h

thread_labels_are_events : (code : List ℕ) (profile : Profile) (objects : ℕ) (ts : List RecordedThread) → AllByRecursion (IsRecordedThread profile objects) ts
    → (t i : ℕ) (k : Label) → At (map label_of (get_or ts t absent).events) i k → events.IsEvent (thread_machine code) k
thread_labels_are_events code profile objects [] all t i k h = absurd h
thread_labels_are_events code profile objects (x ∷ xs) all zero i k h = event_labels_are_events code profile objects x.events all.0.events_fit i k h
thread_labels_are_events code profile objects (x ∷ xs) all (suc t) i k h = thread_labels_are_events code profile objects xs all.1 t i k h

recorded_trace_holds_events : (code : List ℕ) (r : Recorded) → IsRecorded r → HoldsEvents (thread_machine code) (trace_of r)
recorded_trace_holds_events code r is t i k h = thread_labels_are_events code r.profile r.objects r.threads is.threads_fit t i k h

-- ---- a run that goes furthest

pub verdict_below_length : (vs : List ThreadVerdict) (t : ℕ) → t < length vs → (v : ThreadVerdict) × (slice_get vs t ≡ Some v)
verdict_below_length [] t l = absurd (omega (arith, l))
verdict_below_length (v ∷ vs) zero l = (v, refl)
verdict_below_length (v ∷ vs) (suc t) l = verdict_below_length vs t (omega (arith, l))

-- the run goes furthest, and what is said of the threads is how they are at its end
pub all_standing_is_furthest : (g : Guest) (r : Recorded) → IsRecorded r → HasHeader g r → IsCoherent (length g.entries) (trace_of r) → (run : List Step)
    → following.Follows (following.closing (thread_machine g.code) (trace_of r)) (thread_machine g.code) (tables (start_flat g r.budget r.profile))
    (trace_of r) run → (vs : List ThreadVerdict) → length vs ≡ length g.entries
    → ((t : ℕ) (v : ThreadVerdict) → slice_get vs t ≡ Some v
    → StandsAs (thread_machine g.code) (tables (start_flat g r.budget r.profile)) (trace_of r) run t v) → GoesFurthest g r run × AreVerdicts g r vs
all_standing_is_furthest g r is header co run f vs each stands =
    let m = thread_machine g.code in
    let s = tables (start_flat g r.budget r.profile) in
    let tr = trace_of r in
    let n : ℕ = length g.entries in
    let good = state_invariant_start m s (guest_start_is_start g r.budget r.profile) in
    let top : following.IsMaximal (following.closing m tr) m s tr run =
    all_standing_is_maximal n m s (guest_start_is_idle g r.budget r.profile) tr run f
    (λ t l. let v = verdict_below_length vs t (subst (λ z. t < z) (sym each) l) in (v.0, stands t v.0 v.1)) in (
      (f, top),
      (
        each,
        λ run' furthest t v at. same_reach_same_verdict m s tr run run'
            (maximal_reach_same_end (following.closing m tr) n m (thread_machine_lawful g.code) tr co s good
            (guest_start_is_start g r.budget r.profile) (guest_start_is_idle g r.budget r.profile) run run' f
            top furthest.0 furthest.1) t v
            (verdict_from_standing n m (thread_machine_lawful g.code) tr co (recorded_trace_holds_events g.code r is) s good
            (guest_start_is_start g r.budget r.profile) (guest_start_is_idle g r.budget r.profile) run f top t
            v (stands t v at)),
      ),
    )

-- where each thread is the same, the run is complete and has the trace
pub same_threads_have_run : (g : Guest) (r : Recorded) → HasHeader g r → (run : List Step)
    → following.Follows (following.closing (thread_machine g.code) (trace_of r)) (thread_machine g.code) (tables (start_flat g r.budget r.profile))
    (trace_of r) run
    → ((t : ℕ) → t < length g.entries → StandsAs (thread_machine g.code) (tables (start_flat g r.budget r.profile)) (trace_of r) run t Same)
    → IsRunOf g r run
same_threads_have_run g r header run f same =
    let m = thread_machine g.code in
    let s = tables (start_flat g r.budget r.profile) in (
      header,
      done_follower_is_whole (length g.entries) m (thread_machine_closing g.code) (trace_of r) s (guest_start_is_live g r.budget r.profile) run f
          (all_same_is_done (length g.entries) m s (guest_start_is_idle g r.budget r.profile) (trace_of r) run f same),
    )

-- where one isn't, there is no run with the trace
pub differing_has_no_run : (g : Guest) (r : Recorded) → IsCoherent (length g.entries) (trace_of r) → (run : List Step) → GoesFurthest g r run
    → (t : ℕ) (v : ThreadVerdict) → StandsAs (thread_machine g.code) (tables (start_flat g r.budget r.profile)) (trace_of r) run t v → v ≢ Same
    → (whole : List Step) → IsRunOf g r whole → ⊥
differing_has_no_run g r co run furthest t v stands ne whole is =
    let m = thread_machine g.code in
    let s = tables (start_flat g r.budget r.profile) in
    not_same_is_not_done m s (trace_of r) run t v stands ne
    (whole_run_follower_done (length g.entries) m (thread_machine_lawful g.code) (thread_machine_closing g.code) (trace_of r) co s
    (state_invariant_start m s (guest_start_is_start g r.budget r.profile))
    (guest_start_is_start g r.budget r.profile) (guest_start_is_idle g r.budget r.profile) run furthest.0 furthest.1 whole is.1 t)

-- ---- the trace of a run is coherent

missing_thread_no_events : (ts : List RecordedThread) (t : ℕ) → length ts ≤ t → map label_of (get_or ts t absent).events ≡ []
missing_thread_no_events [] t l = refl
missing_thread_no_events (x ∷ xs) zero l = absurd (omega (arith, l))
missing_thread_no_events (x ∷ xs) (suc t) l = missing_thread_no_events xs t (omega (arith, l))

-- each thread's log in the run is the trace's
run_logs_are_recorded : (g : Guest) (r : Recorded) (run : List Step) → IsRunOf g r run → (t : ℕ)
    → log (thread_machine g.code) (tables (start_flat g r.budget r.profile)) run t ≡ (trace_of r).logs t
run_logs_are_recorded g r run is t = elim (cases_lt t (length g.entries)) [
  | inl l ↦ is.1.logs t l
  | inr le ↦
      let m = thread_machine g.code in
      let s = tables (start_flat g r.budget r.profile) in
      let d = (thread_machine_closing g.code).done (s.now t) (guest_start_is_idle g r.budget r.profile t le) in
      let k : AfterThreadEnd m s run t d.0 = ended_only_leaves m (thread_machine_closing g.code) s run is.1.runs is.1.done t d.0 d.1 in
      k.silent ∙ sym (missing_thread_no_events r.threads t (subst (λ z. z ≤ t) (sym is.0.threads) le))
]

pub trace_of_run_coherent : (g : Guest) (r : Recorded) (run : List Step) → IsRunOf g r run → IsCoherent (length g.entries) (trace_of r)
trace_of_run_coherent g r run is =
    let m = thread_machine g.code in
    let s = tables (start_flat g r.budget r.profile) in
    let own : IsCoherent (length g.entries) (trace m s run) =
    own_trace_is_coherent (length g.entries) m (thread_machine_lawful g.code) s
    (state_invariant_start m s (guest_start_is_start g r.budget r.profile)) (guest_start_is_start g r.budget r.profile)
    (guest_start_is_idle g r.budget r.profile)
    run is.1.runs in
    let same : log m s run ≡ (trace_of r).logs = λ i t. run_logs_are_recorded g r run is t i in
    subst (λ logs. IsCoherent (length g.entries) (record (trace_of r) { logs = logs })) same
    (record { made = own.made; writer = own.writer; readers = own.readers })

-- ---- what the code answers

-- why the trace of one of the events is no run's
pub incoherence_refuses : (g : Guest) (r : Recorded) → HasHeader g r → (e : FitErr) → BreaksBy r e → IsRefused g r e
incoherence_refuses g r header NoMem b = tt
incoherence_refuses g r header (Refused (verdict.Header c)) b = absurd b
incoherence_refuses g r header (Refused (verdict.Threads vs)) b = absurd b
incoherence_refuses g r header (Refused (verdict.Incoherent t i c)) b =
    let first : IsFirstBreak (length g.entries) (trace_of r) t i c = subst (λ n. IsFirstBreak n (trace_of r) t i c) header.threads b in
    ((header, first), λ run is. coherent_is_unbroken (length g.entries) (trace_of r) (trace_of_run_coherent g r run is) t i c first.breaks)

-- not all threads are the same at the end of the run that was followed
pub differing_refuses : (g : Guest) (r : Recorded) → IsRecorded r → HasHeader g r → IsCoherent (length g.entries) (trace_of r)
    → (f : Flat) (ps : List Growing) → IsFollowed g r f ps → (vs : List ThreadVerdict) → length vs ≡ length f.threads → AreStanding r f ps vs
    → (t : ℕ) (v : ThreadVerdict) → slice_get vs t ≡ Some v → v ≢ Same
    → (HasHeader g r × ((t i : ℕ) (c : Cause) → HasCause (length g.entries) (trace_of r) t i c → ⊥) × AreVerdicts g r vs)
    × ((run : List Step) → IsRunOf g r run → ⊥)
differing_refuses g r is header co f ps followed vs each stand t v at ne =
    let k = followed.follower in
    let both = all_standing_is_furthest g r is header co k.run k.follows vs (each ∙ k.threads) (stand g k) in
    ((header, coherent_is_unbroken (length g.entries) (trace_of r) co, both.1), differing_has_no_run g r co k.run both.0 t v (stand g k t v at) ne)
