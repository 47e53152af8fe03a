-- The trace of a complete run can be recorded: what each thread logs are events within the limits, and so are its steps and its end.
use Rattle.std.proofs.Common.{◌≡◌, ℕ, zero, suc, ◌+◌, ◌<◌, ◌≤◌, List, [], ◌∷◌, ◌++◌, length, map, Option, Some, None, refl, sym, ap, ◌∙◌, subst, arith, inl, inr}
use Rattle.std.specs.List.{AllByRecursion, range_with_len}
use Rattle.std.proofs.lemmas.Bool.{cases_eq}
use Rattle.std.proofs.lemmas.List.{length-map}
use Rattle.std.proofs.lemmas.List.FromFn.{get_or-map-range_with_len, length-map-range_with_len}
use Rattle.ir_image.specs.Guest.{Guest, object_count}
use Rattle.ir_image.specs.Bounds.{IsGuest}
use Rattle.ir_image.proofs.CallerLemmas.{guest_threads_within, guest_objects_within}
use Rattle.ir_thread.specs.State.{IsAllowed, end_number, end_code, ask_of, most_budget, shared_ask, thread_machine}
use Rattle.ir_thread.specs.Permitted.{Permits}
use Rattle.ir_thread.specs.State as thread
use Rattle.ir_thread.specs.declared.ask.Ask.{Ask}
use Rattle.ir_thread.specs.declared.ask.Ask.TheVariants as ask
use Rattle.ir_thread.specs.declared.end.End.{End}
use Rattle.ir_thread.specs.declared.end.End.TheVariants as end_of
use Rattle.ir_thread.specs.declared.profile.Profile.{Profile}
use Rattle.ir_thread.proofs.CallerLemmas.{ask_of_permitted, end_number_and_code, thread_machine_closing}
use Rattle.ir_runs.specs.Machine.{act_of, Object, Admits, emitted, Label, logged}
use Rattle.ir_runs.specs.Run.{State, Step, Can, after, label, IsRun, end, events, log, count, IsDone}
use Rattle.ir_runs.specs.declared.access.Access.TheVariants.{Reading, Writing}
use Rattle.ir_runs.proofs.CallerLemmas.{trail_cons_own, trail_cons_other, prefix_of_run_is_run}
use Rattle.ir_flat.specs.Flat.{tables, start_flat}
use Rattle.ir_flat.specs.Laws.{FitsGuest}
use Rattle.ir_flat.proofs.CallerLemmas.{run_object_counts_fit, start_has_no_steps, start_thread_is_fresh, tallies_along_run, StepsFit}
use Rattle.ir_flat.proofs.CallerLemmas.{CodeFits, IsWithin, profiles_of, get_or-start_threads, within_bounds_run_end}
use Rattle.ir_log.specs.Logging.{label_of}
use Rattle.ir_log.specs.declared.event.Event.{Event}
use Rattle.ir_log.specs.declared.event.Event.TheVariants.{Answer, Read, Write, Try}
use Rattle.ir_trace.specs.Recorded.{RecordedThread, Recorded, recorded_thread}
use Rattle.ir_trace.specs.Bounds.{IsWord, IsEvent, IsRecordedThread, IsRecorded}
use Rattle.ir_trace.specs.Absent.{absent}
use Rattle.ir_fit.specs.Fit.{IsRunOf}
use Rattle.ir_fit.specs.Laws.{EachRunIsRecorded}

-- ---- one step

-- these labels are those of events within the limits
record AreEvents (profile : Profile) (objects : ℕ) (labels : List Label) : Type 0 where
  events : List Event
  same : map label_of events ≡ labels
  fit : AllByRecursion (IsEvent profile objects) events

events_cons : {profile : Profile} {objects : ℕ} {labels : List Label} (e : Event) → IsEvent profile objects e
    → AreEvents profile objects labels → AreEvents profile objects (label_of e ∷ labels)
events_cons e fits rest = record { events = e ∷ rest.events; same = ap (λ z. label_of e ∷ z) rest.same; fit = (fits, rest.fit) }

-- what is logged of a step is an event within the limits
logged_within_limits : (code : List ℕ) {profile : Profile} {objects : ℕ} {labels : List Label} (n : ℕ) (x : thread.ThreadState) (q : Ask) (r : ℕ) (b : Object)
    → Permits x q → x.profile ≡ profile → length x.held ≤ objects → FitsGuest n b → Admits (thread_machine code) (act_of (shared_ask q) r) b
    → AreEvents profile objects labels → AreEvents profile objects (logged (emitted (act_of (shared_ask q) r) b) labels)
logged_within_limits code n x ask.Private r b p same few fits can rest = rest
logged_within_limits code n x (ask.Env kind) r b p same few fits can rest = events_cons (Answer kind r) can rest
logged_within_limits code n x (ask.Enter o Reading) r b p same few fits can rest =
    events_cons (Read o b.version) (omega (arith, p.2, few), fits.version) rest
logged_within_limits code n x (ask.Enter o Writing) r b p same few fits can rest =
    events_cons (Write o b.version b.left) (omega (arith, p.2, few), fits.version, omega (arith, fits.left)) rest
logged_within_limits code n x (ask.Try o) zero b p same few fits can rest = events_cons (Try o) (sym same ∙ p.4, omega (arith, p.2, few)) rest
logged_within_limits code n x (ask.Try o) (suc zero) b p same few fits can rest =
    events_cons (Write o b.version b.left) (omega (arith, p.2, few), fits.version, omega (arith, fits.left)) rest
logged_within_limits code n x (ask.Try o) (suc (suc r)) b p same few fits can rest = absurd can
logged_within_limits code n x (ask.Leave o a) r b p same few fits can rest = rest
logged_within_limits code n x (ask.Get o i) r b p same few fits can rest = rest
logged_within_limits code n x (ask.Put o i w) r b p same few fits can rest = rest
logged_within_limits code n x ask.Print r b p same few fits can rest = rest
logged_within_limits code n x (ask.End e) r b p same few fits can rest = rest
logged_within_limits code n x ask.Done r b p same few fits can rest = absurd can

-- ---- the steps of a run

-- threads and objects are within their bounds, and what the objects count fits
record IsWithinLimits (n budget objects : ℕ) (profiles : ℕ → Profile) (s : State thread.ThreadState) : Type 0 where
  within : IsWithin budget objects profiles s
  counts : (o : ℕ) → FitsGuest n (s.objects o)

step_label_within_limits : (code : List ℕ) {n budget objects : ℕ} {profiles : ℕ → Profile} {labels : List Label} (s : State thread.ThreadState) (e : Step)
    → IsWithinLimits n budget objects profiles s → Can (thread_machine code) s e → AreEvents (profiles e.0) objects labels
    → AreEvents (profiles e.0) objects (logged (label (thread_machine code) s e) labels)
step_label_within_limits code {n} s e h can rest =
    let x : thread.ThreadState = s.now e.0 in
    let bounded = h.within.threads e.0 in
    logged_within_limits code n x (ask_of code x) e.1 (s.objects _) (ask_of_permitted code x) bounded.profile_is bounded.places (h.counts _) can rest

log_within_limits : (code : List ℕ) (n budget objects : ℕ) (profiles : ℕ → Profile) (s : State thread.ThreadState) (run : List Step)
    → IsRun (thread_machine code) s run
    → ((before more : List Step) → run ≡ before ++ more → IsWithinLimits n budget objects profiles (end (thread_machine code) s before))
    → (t : ℕ) → AreEvents (profiles t) objects (log (thread_machine code) s run t)
log_within_limits code n budget objects profiles s [] ok at t = record { events = []; same = refl; fit = tt }
log_within_limits code n budget objects profiles s (e ∷ run) ok at t =
    let m = thread_machine code in
    let rest = log_within_limits code n budget objects profiles (after m s e) run ok.1
    (λ before more is. at (e ∷ before) more (ap (λ z. e ∷ z) is)) in
    elim (cases_eq t e.0) [
      | inl same ↦ subst (λ z. AreEvents (profiles z) objects (log m s (e ∷ run) z)) (sym same)
          (subst (λ xs. AreEvents (profiles e.0) objects (events xs)) (sym (trail_cons_own m s e run))
          (step_label_within_limits code s e (at [] (e ∷ run) refl) ok.0 (rest e.0)))
      | inr other ↦ subst (λ xs. AreEvents (profiles t) objects (events xs)) (sym (trail_cons_other m s e run t other)) (rest t)
    ]

-- ---- what is recorded of the run

-- the end, where there is one
abbrev end_or_breakpoint : Option End → End
end_or_breakpoint None = end_of.Breakpoint
end_or_breakpoint (Some e) = e

pub steps_within_budget : (e : Option End) (x : thread.ThreadState) → StepsFit e x → x.steps ≤ x.budget + 1 + length x.held
steps_within_budget None x h = omega (arith, h)
steps_within_budget (Some e) x h = omega (arith, h)

end_code_is_word : (e : Option End) → CodeFits e → IsWord (end_code (end_or_breakpoint e))
end_code_is_word None h = omega arith
end_code_is_word (Some e) h = h

end_number_is_of_end : (e : Option End) (p : ℕ × ℕ) → end_number_and_code e ≡ Some p → end_number_and_code e ≡ Some (end_number (end_or_breakpoint e), end_code (end_or_breakpoint e))
end_number_is_of_end None p h = absurd (cc h)
end_number_is_of_end (Some e) p h = refl

all_of_mapped_range : {X : Type 0} (P : X → Type 0) (f : ℕ → X) (a n : ℕ) → ((t : ℕ) → t < a + n → P (f t))
    → AllByRecursion P (map f (range_with_len a n))
all_of_mapped_range P f a zero h = tt
all_of_mapped_range P f a (suc n) h = (h a (omega arith), all_of_mapped_range P f (a + 1) n (λ t l. h t (omega (arith, l))))

module _ (g : Guest) (budget : ℕ) (profile : Profile) (run : List Step) (guest : IsGuest g)
    (ok : IsRun (thread_machine g.code) (tables (start_flat g budget profile)) run) where
  abbrev first : State thread.ThreadState
  first = tables (start_flat g budget profile)

  abbrev last : State thread.ThreadState
  last = end (thread_machine g.code) first run

  -- what each thread logs
  logged_of : (t : ℕ) → AreEvents (profiles_of g budget profile t) (object_count g) (log (thread_machine g.code) first run t)
  logged_of t = log_within_limits g.code (length g.entries) budget (object_count g) (profiles_of g budget profile) first run ok
      (λ before more is.
      let begins : IsRun (thread_machine g.code) first before =
      prefix_of_run_is_run (thread_machine g.code) first before more (subst (IsRun (thread_machine g.code) first) is ok) in
      record {
        within = within_bounds_run_end g budget profile before guest begins;
        counts = λ o. run_object_counts_fit g budget profile before (guest_threads_within g guest) begins o;
      }) t

  -- what is recorded of each thread, and of all
  abbrev thread_record : ℕ → RecordedThread
  thread_record t = record {
    steps = count (thread_machine g.code) first run t;
    end = end_or_breakpoint (last.now t).ended;
    events = (logged_of t).events;
  }

  abbrev recorded_of : Recorded
  recorded_of = record {
    objects = object_count g;
    budget = budget;
    profile = profile;
    threads = map thread_record (range_with_len 0 (length g.entries));
  }

  thread_there : (t : ℕ) → t < length g.entries → recorded_thread recorded_of t ≡ thread_record t
  thread_there t l = get_or-map-range_with_len thread_record 0 (length g.entries) t t absent l (omega arith)

  -- each thread's part is within the limits
  thread_fits : budget ≤ most_budget → (t : ℕ) → t < length g.entries → IsRecordedThread profile (object_count g) (thread_record t)
  thread_fits few t l =
      let bounded = (within_bounds_run_end g budget profile run guest ok).threads t in
      let counted = tallies_along_run g.code first run ok t in
      let no_step = start_has_no_steps g budget profile 0 (length g.entries) t in
      let no_event = (start_thread_is_fresh g budget profile 0 (length g.entries) t).events in
      let most = steps_within_budget (last.now t).ended (last.now t) bounded.steps in
      let objects = guest_objects_within g guest in
      let size = length-map (logged_of t).events label_of in
      let same = ap (λ (z : List Label). length z) (logged_of t).same in
      let own : profiles_of g budget profile t ≡ profile = ap (λ x. x.profile) (get_or-start_threads g budget profile 0 (length g.entries) t l) in
      record {
        steps_fit = omega (arith, counted.steps, no_step, most, bounded.limit, bounded.places, objects, few);
        code_fits = end_code_is_word (last.now t).ended bounded.code;
        few_events = omega (arith, counted.events, no_event, size, same, bounded.events);
        events_fit = subst (λ p. AllByRecursion (IsEvent p (object_count g)) (logged_of t).events) own (logged_of t).fit;
      }

  -- so is all that is recorded
  recorded_fits : IsAllowed profile g → budget ≤ most_budget → IsRecorded recorded_of
  recorded_fits allowed few =
      let size = length-map-range_with_len thread_record 0 (length g.entries) in
      record {
        some_thread = omega (arith, size, guest.some_thread);
        few_threads = omega (arith, size, allowed.0);
        few_objects = allowed.1;
        budget_fits = few;
        threads_fit = all_of_mapped_range (IsRecordedThread profile (object_count g)) thread_record 0 (length g.entries)
            (λ t l. thread_fits few t (omega (arith, l)));
      }

  -- it has the run
  whole : IsDone (thread_machine g.code) last → IsRunOf g recorded_of run
  whole done = (
    record { threads = length-map-range_with_len thread_record 0 (length g.entries); objects = refl },
    record {
      runs = ok;
      done = done;
      steps = λ t l. sym (ap (λ z. z.steps) (thread_there t l));
      logs = λ t l. sym (ap (λ z. map label_of z.events) (thread_there t l) ∙ (logged_of t).same);
      ends = λ t l.
          let e = (thread_machine_closing g.code).done (last.now t) (done t) in
          end_number_is_of_end (last.now t).ended e.0 e.1 ∙ sym (ap (λ z. Some (end_number z.end, end_code z.end)) (thread_there t l));
    },
  )

pub each_run_is_recorded : EachRunIsRecorded
each_run_is_recorded g budget profile run guest allowed few ok = (
  recorded_of g budget profile run guest ok.0,
  recorded_fits g budget profile run guest ok.0 allowed few,
  refl,
  refl,
  whole g budget profile run guest ok.0 ok.1,
)
