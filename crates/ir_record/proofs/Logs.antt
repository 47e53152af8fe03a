-- Logs keep up with the threads.
use Rattle.std.proofs.Common.{◌≡◌, ◌≢◌, ℕ, ◌+◌, ◌<◌, List, [], ◌∷◌, ◌++◌, length, map, set, get_or, Result, Ok, Err, OnOk, OnErr, refl, sym}
use Rattle.std.proofs.Common.{ap, ◌∙◌, subst, arith, inl, inr, length-append, length-set, get_or-set_same, get_or-set_other}
use Rattle.std.proofs.lemmas.Bool.{cases_eq}
use Rattle.std.proofs.lemmas.List.{get_or_default}
use Rattle.std.specs.List.{AllByRecursion}
use Rattle.ir_lemmas.proofs.CallerLemmas.{all_of_push, map_of_append_item}
use Rattle.ir_thread.specs.State.{ask_of, most_events}
use Rattle.ir_runs.proofs.CallerLemmas.{upd_at_own_place, upd_at_other_place}
use Rattle.ir_flat.specs.Flat.{Flat, thread_of, tables, machine}
use Rattle.ir_runs.specs.Run.{after}
use Rattle.ir_flat.proofs.CallerLemmas.{events_added_by, events_after_ask, moved_thread, threads_after_step}
use Rattle.ir_log.specs.Logged.{Logged}
use Rattle.ir_log.specs.Logging.{label_of}
use Rattle.ir_log.specs.declared.event.Event.{Event}
use Rattle.ir_trace.specs.Bounds.{IsEvent}
use Rattle.ir_record.specs.Progress.{HasLogs, no_log, log_at, labels_at}
use Rattle.ir_record.proofs.Profiles.{events_of_equal_counts, thread_profile_stays}

-- what a thread counts of its events after a step
pub own_step_event_count : (f g : Flat) (t r : ℕ) → tables g ≡ after (machine f) (tables f) (t, r)
    → (thread_of g t).events ≡ (thread_of f t).events + events_added_by (ask_of f.code (thread_of f t))
own_step_event_count f g t r taken =
    ap (λ s. (s.now t).events) taken ∙ ap (λ now. (now t).events) (threads_after_step f.code (tables f) (t, r))
    ∙ ap (λ x. x.events) (upd_at_own_place (thread_of f) t (moved_thread f.code (tables f) (t, r)))
    ∙ events_after_ask f.code (thread_of f t) (ask_of f.code (thread_of f t)) _

pub other_step_event_count : (f g : Flat) (t r u : ℕ) → tables g ≡ after (machine f) (tables f) (t, r) → u ≢ t
    → (thread_of g u).events ≡ (thread_of f u).events
other_step_event_count f g t r u taken ne =
    ap (λ s. (s.now u).events) taken ∙ ap (λ now. (now u).events) (threads_after_step f.code (tables f) (t, r))
    ∙ ap (λ x. x.events) (upd_at_other_place (thread_of f) t u (moved_thread f.code (tables f) (t, r)) ne)

-- a step that logs nothing
pub has_logs_unlogged_step : (f g : Flat) (logs : List Logged) (t r : ℕ) → HasLogs f logs → tables g ≡ after (machine f) (tables f) (t, r)
    → length g.threads ≡ length f.threads → length g.objects ≡ length f.objects
    → events_added_by (ask_of f.code (thread_of f t)) ≡ 0 → HasLogs g logs
has_logs_unlogged_step f g logs t r has_logs taken threads objects none = record {
  one_each = has_logs.one_each ∙ sym threads;
  rooms = λ u l. has_logs.rooms u (omega (arith, l, threads));
  counts = λ u l. has_logs.counts u (omega (arith, l, threads)) ∙ sym (elim (cases_eq u t) [
    | inl e ↦ subst (λ z. (thread_of g z).events ≡ (thread_of f z).events) (sym e)
        (let own = own_step_event_count f g t r taken in omega (arith, own, none))
    | inr ne ↦ other_step_event_count f g t r u taken ne
  ]);
  events_fit = λ u l. events_of_equal_counts (thread_of f u).profile (thread_of g u).profile (length f.objects) (length g.objects) (log_at logs u).events
      (thread_profile_stays f g t r u taken) objects (has_logs.events_fit u (omega (arith, l, threads)));
}

-- a step that logs an event
pub has_logs_event_pushed : (f g : Flat) (logs : List Logged) (t r : ℕ) (e : Event) (new : Logged) → HasLogs f logs → t < length f.threads
    → tables g ≡ after (machine f) (tables f) (t, r) → length g.threads ≡ length f.threads → length g.objects ≡ length f.objects
    → events_added_by (ask_of f.code (thread_of f t)) ≡ 1 → IsEvent (thread_of f t).profile (length f.objects) e
    → new ≡ record (log_at logs t) { events = (log_at logs t).events ++ e ∷ [] } → HasLogs g (set logs t new)
has_logs_event_pushed f g logs t r e new has_logs below taken threads objects one fits is =
    let here : log_at (set logs t new) t ≡ new = get_or-set_same logs t new no_log (omega (arith, below, has_logs.one_each)) in
    let there : (u : ℕ) → u ≢ t → log_at (set logs t new) u ≡ log_at logs u = λ u ne. get_or-set_other logs t u new no_log ne in
    let longer : length new.events ≡ length (log_at logs t).events + 1 = ap (λ l. length l.events) is
    ∙ length-append (log_at logs t).events (e ∷ []) in
    record {
      one_each = length-set logs t new ∙ has_logs.one_each ∙ sym threads;
      rooms = λ u l. elim (cases_eq u t) [
        | inl same ↦ subst (λ z. (log_at (set logs t new) z).room ≡ most_events) (sym same)
            (ap (λ z. z.room) here ∙ ap (λ z. z.room) is ∙ has_logs.rooms t below)
        | inr ne ↦ ap (λ z. z.room) (there u ne) ∙ has_logs.rooms u (omega (arith, l, threads))
      ];
      counts = λ u l. elim (cases_eq u t) [
        | inl same ↦ subst (λ z. length (log_at (set logs t new) z).events ≡ (thread_of g z).events) (sym same)
            (ap (λ z. length z.events) here ∙ longer
            ∙ (let own = own_step_event_count f g t r taken in let was = has_logs.counts t below in omega (arith, own, was, one)))
        | inr ne ↦ ap (λ z. length z.events) (there u ne) ∙ has_logs.counts u (omega (arith, l, threads))
            ∙ sym (other_step_event_count f g t r u taken ne)
      ];
      events_fit = λ u l. events_of_equal_counts (thread_of f u).profile (thread_of g u).profile (length f.objects) (length g.objects)
          (log_at (set logs t new) u).events (thread_profile_stays f g t r u taken) objects (elim (cases_eq u t) [
            | inl same ↦ subst (λ z. AllByRecursion (IsEvent (thread_of f z).profile (length f.objects)) (log_at (set logs t new) z).events)
                (sym same) (subst (λ z. AllByRecursion (IsEvent (thread_of f t).profile (length f.objects)) z.events) (sym (here ∙ is))
                (all_of_push (IsEvent (thread_of f t).profile (length f.objects)) (log_at logs t).events e (has_logs.events_fit t below) fits))
            | inr ne ↦ subst (λ z. AllByRecursion (IsEvent (thread_of f u).profile (length f.objects)) z.events) (sym (there u ne))
                (has_logs.events_fit u (omega (arith, l, threads)))
          ]);
    }

-- the labels in a log with an event more
pub pushed_label_is_last : (logs : List Logged) (t : ℕ) (e : Event) (new : Logged) → t < length logs
    → new ≡ record (log_at logs t) { events = (log_at logs t).events ++ e ∷ [] }
    → labels_at (set logs t new) t ≡ labels_at logs t ++ label_of e ∷ []
pushed_label_is_last logs t e new l is =
    ap (λ z. map label_of z.events) (get_or-set_same logs t new no_log l ∙ is) ∙ map_of_append_item label_of (log_at logs t).events e

pub labels_other_log_same : (logs : List Logged) (t u : ℕ) (new : Logged) → u ≢ t → labels_at (set logs t new) u ≡ labels_at logs u
labels_other_log_same logs t u new ne = ap (λ z. map label_of z.events) (get_or-set_other logs t u new no_log ne)

-- there is room for an event
pub log_has_room : (f : Flat) (logs : List Logged) (t : ℕ) (l : Logged) → HasLogs f logs → t < length f.threads → l ≡ log_at logs t
    → (thread_of f t).events < most_events → length l.events < l.room
log_has_room f logs t l has_logs below is can =
    let count : length l.events ≡ (thread_of f t).events = ap (λ z. length z.events) is ∙ has_logs.counts t below in
    let room : l.room ≡ most_events = ap (λ z. z.room) is ∙ has_logs.rooms t below in
    omega (arith, count, room, can)

-- the log that was read
pub looked_up_log_is_log_at : (f : Flat) (logs : List Logged) (t : ℕ) (l : Logged) → HasLogs f logs → t < length f.threads → l ≡ get_or logs t l
    → l ≡ log_at logs t
looked_up_log_is_log_at f logs t l has_logs below e = e ∙ get_or_default logs t l no_log (omega (arith, below, has_logs.one_each))
