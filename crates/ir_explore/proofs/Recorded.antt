-- Recordings of a guest whose outcomes are listed.
use Rattle.std.proofs.Common.{◌≡◌, ◌≢◌, ◌<◌, ◌≤◌, ℕ, Bool, true, false, Option, Some, None, Result, Ok, List, [], ◌∷◌, ◌++◌, length, map, get_or, refl, sym, ap, ◌∙◌, subst, arith, inl, inr}
use Rattle.std.specs.Option.{is_some}
use Rattle.std.specs.List.{AllByRecursion}
use Rattle.std.proofs.lemmas.Bool.{cases_lt}
use Rattle.std.proofs.lemmas.List.{get_or-replicate, get_or_past}
use Rattle.std.proofs.lemmas.List.FromFn.{get_or-map-range_with_len}
use Rattle.std.proofs.lemmas.Option.{get_or_from_slice_get}
use Rattle.ir_flat.specs.Flat.{start_flat, tables, thread_of, idle}
use Rattle.ir_flat.proofs.CallerLemmas.{length_of_start_threads, guest_start_is_idle}
use Rattle.ir_graph.specs.Setup.{Setup, first_source, IsCountedOf}
use Rattle.ir_graph.specs.Outcomes.{RunOutcome}
use Rattle.ir_image.specs.Guest.{Guest, guest_at}
use Rattle.ir_log.specs.Logging.{label_of}
use Rattle.ir_log.specs.declared.event.Event.{Event}
use Rattle.ir_log.specs.declared.event.Event.TheVariants as event
use Rattle.ir_order.specs.Recording.{IsOfRun}
use Rattle.ir_outcomes.specs.Explored.{IsOutcomeOf}
use Rattle.ir_outcomes.specs.Shown.{outcome_by}
use Rattle.ir_record.specs.Recording.{IsRecordingOf, AreAnswers}
use Rattle.ir_record.specs.Recordings.{IsRecordingOfSome}
use Rattle.ir_record.specs.Worlds.{AnsweredCall, answers_in}
use Rattle.ir_record_command.specs.Plan.{Plan}
use Rattle.ir_record_command.specs.Recording.{unasked, IsRecordedBy, IsRecordedOf}
use Rattle.ir_runs.specs.Bounds.{IsIdle}
use Rattle.ir_runs.specs.Machine.{Machine, Label, Quiet, Answer, EnteredAt, FailedTry, LeftAt}
use Rattle.ir_runs.specs.Run.{State, Step, IsRun, IsWhole, after, end, trail, events, log}
use Rattle.ir_runs.specs.declared.env_kind.EnvKind.TheVariants.{Clock, Random, Input}
use Rattle.ir_runs.proofs.CallerLemmas.{idle_stays_idle, thread_after_other, trail_cons_other}
use Rattle.ir_world.specs.Sources.{Source, source, given, Gave, untimed, from_sources, IsAnsweredFrom, origin_of, seed_of}
use Rattle.ir_search_laws.specs.Sources.{Gives}
use Rattle.ir_state_store.specs.Table.{no_source}
use Rattle.ir_thread.specs.State.{ThreadState, thread_machine}
use Rattle.ir_thread.specs.declared.profile.Profile.{Profile}
use Rattle.ir_trace.specs.Recorded.{Recorded, recorded_thread, trace_of}
use Rattle.ir_graph.specs.Times.{HasTime, HasTimedRun}
use Rattle.ir_likeness.specs.Seen.{IsSpoilt}
use Rattle.ir_search_laws.specs.Views.{IsUnspoilt}
use Rattle.ir_explore.specs.Recorded.{IsUntimed, AreUntimed, AreUncut, IsOfOutcome, IsUncutRecording, RecordingsHaveOutcomes}
use Rattle.ir_explore.specs.Recorded.{RecordingsAreListed, RecordingsAreUntimed, UntimedRecordingsAreListed, RecordingsNeverFulfil}
use Rattle.ir_explore.proofs.Untimed.{GivesUntilTime, until_time_given, untimed_or_have_time, log_time_timed_run}

-- ---- threads that the guest doesn't have

-- a thread from n on, all of which are done, takes no step
no_step_of_thread_above : {T : Type 0} (m : Machine T) (s : State T) (n : ℕ) → IsIdle m s n → (run : List Step) → IsRun m s run → (t : ℕ) → n ≤ t
    → (trail m s run t ≡ []) × ((end m s run).now t ≡ s.now t)
no_step_of_thread_above m s n is_idle [] ok t l = (refl, refl)
no_step_of_thread_above m s n is_idle (e ∷ run) ok t l =
    let g = idle_stays_idle m s n is_idle e ok.0 in
    let rest = no_step_of_thread_above m (after m s e) n g.1 run ok.1 t l in
    let other : t ≢ e.0 = λ q. absurd (omega (arith, q, l, g.0)) in
    (trail_cons_other m s e run t other ∙ rest.0, rest.1 ∙ thread_after_other m s e t other)

-- ---- answers

-- a log whose answers a source gave, in turn, is answered by the source
gave_answers_log : (s : Source) (es : List Label) (left : Source) → Gave s (answers_in es) left → Gives given s es
gave_answers_log s [] left h = tt
gave_answers_log s (Quiet ∷ es) left h = gave_answers_log s es left h
gave_answers_log s (Answer k v ∷ es) left h = (h.0, gave_answers_log (given k s).1 es left h.1)
gave_answers_log s (EnteredAt o a v l ∷ es) left h = gave_answers_log s es left h
gave_answers_log s (FailedTry o ∷ es) left h = gave_answers_log s es left h
gave_answers_log s (LeftAt o a v ∷ es) left h = gave_answers_log s es left h

-- where no call for the time was answered, all answers come from the source
untimed_answers_are_all : (es : List Event) → AllByRecursion IsUntimed es → untimed (answers_in (map label_of es)) ≡ answers_in (map label_of es)
untimed_answers_are_all [] h = refl
untimed_answers_are_all (event.Answer Clock v ∷ es) h = absurd h.0
untimed_answers_are_all (event.Answer Random v ∷ es) h = ap (λ z. (Random, v) ∷ z) (untimed_answers_are_all es h.1)
untimed_answers_are_all (event.Answer Input v ∷ es) h = ap (λ z. (Input, v) ∷ z) (untimed_answers_are_all es h.1)
untimed_answers_are_all (event.Read o v ∷ es) h = untimed_answers_are_all es h.1
untimed_answers_are_all (event.Write o v r ∷ es) h = untimed_answers_are_all es h.1
untimed_answers_are_all (event.Try o ∷ es) h = untimed_answers_are_all es h.1

from_sources_all : (counted : Bool) (es : List Event) → AllByRecursion IsUntimed es
    → from_sources counted (answers_in (map label_of es)) ≡ answers_in (map label_of es)
from_sources_all true es h = refl
from_sources_all false es h = untimed_answers_are_all es h

-- the answers that were kept of a thread are those in its log
kept_answers_are_in_log : (guest : Guest) (budget : ℕ) (profile : Profile) (run : List Step) (answers : List (List AnsweredCall)) (t : ℕ) → t < length guest.entries
    → AreAnswers guest budget profile run (unasked guest) answers
    → get_or answers t [] ≡ answers_in (log (thread_machine guest.code) (tables (start_flat guest budget profile)) run t)
kept_answers_are_in_log guest budget profile run answers t l h =
    get_or_from_slice_get answers t _ [] (h.each t l)
    ∙ ap (λ (z : List AnsweredCall). z ++ answers_in (log (thread_machine guest.code) (tables (start_flat guest budget profile)) run t))
    (get_or-replicate (length guest.entries) t [] [] l)

first_source_is_source : (setup : Setup) (t : ℕ) → t < length setup.guest.entries → first_source setup t ≡ source (seed_of setup.random t) setup.input
first_source_is_source setup t l =
    get_or-map-range_with_len (λ u. source (seed_of setup.random u) setup.input) 0 (length setup.guest.entries) t t no_source l (omega arith)

-- ---- ends

abbrev number_of : Option (ℕ × ℕ) → ℕ
number_of None = 0
number_of (Some e) = e.0

missing_thread_is_idle : (guest : Guest) (budget : ℕ) (profile : Profile) (t : ℕ) → length guest.entries ≤ t
    → thread_of (start_flat guest budget profile) t ≡ idle
missing_thread_is_idle guest budget profile t l = get_or_past (start_flat guest budget profile).threads t idle
    (let e = length_of_start_threads guest budget profile 0 (length guest.entries) in omega (arith, e, l))

-- ---- a run that was recorded counts

module _ (setup : Setup) (budget : ℕ) (counted : Bool) (run : List Step) (trace : Recorded) (outputs : List (List ℕ)) (answers : List (List AnsweredCall))
    (r : IsRecordingOf setup.guest budget setup.profile run (unasked setup.guest) trace outputs answers)
    (answered : (t : ℕ) → t < length setup.guest.entries → IsAnsweredFrom (origin_of counted setup.random setup.input t) (get_or answers t []))
    (uncut : AreUncut (length setup.guest.entries) trace) where
  abbrev n : ℕ
  n = length setup.guest.entries

  abbrev m : Machine ThreadState
  m = thread_machine setup.guest.code

  abbrev s : State ThreadState
  s = tables (start_flat setup.guest budget setup.profile)

  w : IsWhole m s n (trace_of trace) run
  w = r.emitted.whole

  still : (t : ℕ) → n ≤ t → (trail m s run t ≡ []) × ((end m s run).now t ≡ s.now t)
  still t g = no_step_of_thread_above m s n (guest_start_is_idle setup.guest budget setup.profile) run w.runs t g

  recorded_end_is_unspoilt : IsUnspoilt (IsSpoilt setup.guest.code) (end m s run)
  recorded_end_is_unspoilt t spoilt = elim (cases_lt t n) [
    | inl l ↦ elim spoilt [
      | inl a ↦ (uncut t l).0 (ap number_of (sym (w.ends t l) ∙ a))
      | inr a ↦ (uncut t l).1 (ap number_of (sym (w.ends t l) ∙ a))
    ]
    | inr g ↦ let ends : m.ended ((end m s run).now t) ≡ m.ended idle = ap m.ended ((still t g).1 ∙ missing_thread_is_idle setup.guest budget setup.profile t g) in
        elim spoilt [
          | inl a ↦ let e : 2 ≡ 13 = ap number_of (sym ends ∙ a) in absurd (omega (arith, e))
          | inr a ↦ let e : 2 ≡ 14 = ap number_of (sym ends ∙ a) in absurd (omega (arith, e))
        ]
  ]

  -- what the world of a thread was asked is in the thread's log
  kept_in_log : (t : ℕ) → t < n → get_or answers t [] ≡ answers_in (map label_of (recorded_thread trace t).events)
  kept_in_log t l = kept_answers_are_in_log setup.guest budget setup.profile run answers t l r.answered ∙ ap answers_in (w.logs t l)

  -- what holds of the source and the events of each thread that the guest has, and of no log, holds of each source and log
  of_each_log : (P : Source → List Label → Type 0) → ((source : Source) → P source [])
      → ((t : ℕ) → t < n → P (source (seed_of setup.random t) setup.input) (map label_of (recorded_thread trace t).events))
      → (t : ℕ) → P (first_source setup t) (log m s run t)
  of_each_log P none some t = elim (cases_lt t n) [
    | inl l ↦ subst (λ z. P z (log m s run t)) (sym (first_source_is_source setup t l))
        (subst (P (source (seed_of setup.random t) setup.input)) (sym (w.logs t l)) (some t l))
    | inr g ↦ subst (P (first_source setup t)) (sym (ap events (still t g).0)) (none (first_source setup t))
  ]

  counted_if_recorded : AreUntimed n trace → IsCountedOf setup budget run
  counted_if_recorded no_clock = record {
    complete = (w.runs, w.done);
    answered = of_each_log (Gives given) (λ source. tt) (λ t l.
        let es = (recorded_thread trace t).events in
        let a = answered t l in
        let all : from_sources counted (get_or answers t []) ≡ answers_in (map label_of es) =
        ap (from_sources counted) (kept_in_log t l) ∙ from_sources_all counted es (no_clock t l) in
        gave_answers_log (source (seed_of setup.random t) setup.input) (map label_of es) a.0
        (subst (λ z. Gave (source (seed_of setup.random t) setup.input) z a.0) all a.1));
    unspoilt = recorded_end_is_unspoilt;
  }

  untimed_if_no_timed_run : (HasTimedRun setup → ⊥) → AreUntimed n trace
  untimed_if_no_timed_run none t l = elim (untimed_or_have_time (recorded_thread trace t).events) [
    | inl all ↦ all
    | inr has ↦ absurd (none (log_time_timed_run setup budget run w.runs
        (of_each_log GivesUntilTime (λ source. tt) (λ u less.
        let a = answered u less in
        until_time_given counted (source (seed_of setup.random u) setup.input) (map label_of (recorded_thread trace u).events) a.0
        (subst (λ z. Gave (source (seed_of setup.random u) setup.input) (from_sources counted z) a.0) (kept_in_log u less) a.1)))
        recorded_end_is_unspoilt t (subst HasTime (sym (w.logs t l)) has)))
  ]

-- ---- the laws

-- what was recorded, by a list or by threads, is of some run
recording_is_of_some_run : (order : Option (List ℕ)) (guest : Guest) (budget : ℕ) (profile : Profile) (trace : Recorded) (outputs : List (List ℕ))
    (answers : List (List AnsweredCall)) → IsRecordedBy order guest budget profile trace outputs answers
    → IsRecordingOfSome guest budget profile (unasked guest) trace outputs answers
recording_is_of_some_run (Some list) guest budget profile trace outputs answers r = (r.2.0, r.2.2)
recording_is_of_some_run None guest budget profile trace outputs answers r = r

-- the guest that was recorded, as it is explored
abbrev recorded_setup : (image : List ℕ) (plan : Plan) (trace : Recorded) (outputs : List (List ℕ)) → IsRecordedOf image plan trace outputs → Setup
recorded_setup image plan trace outputs r = record { guest = r.guest; profile = plan.profile; random = plan.random; input = plan.input }

recorded_setup_has_outcome : (image : List ℕ) (plan : Plan) (trace : Recorded) (outputs : List (List ℕ)) (r : IsRecordedOf image plan trace outputs)
    → AreUntimed (length r.guest.entries) trace → AreUncut (length r.guest.entries) trace
    → (x : RunOutcome) × IsOfOutcome (recorded_setup image plan trace outputs r) plan.budget trace outputs x
    × IsOutcomeOf (recorded_setup image plan trace outputs r) x
recorded_setup_has_outcome image plan trace outputs r no_clock uncut =
    let some : IsRecordingOfSome r.guest plan.budget plan.profile (unasked r.guest) trace outputs r.answers =
    recording_is_of_some_run plan.order r.guest plan.budget plan.profile trace outputs r.answers r.recorded in
    let setup = recorded_setup image plan trace outputs r in
    let of_run : IsOfRun r.guest plan.budget plan.profile some.0 trace outputs = record { trace_of = some.1.emitted; printed = some.1.printed } in
    let counts : IsCountedOf setup plan.budget some.0 =
    counted_if_recorded setup plan.budget (is_some plan.order) some.0 trace outputs r.answers some.1 r.answered uncut no_clock in
    (outcome_by setup plan.budget some.0, (some.0, of_run, refl), (plan.budget, some.0, counts, refl))

same_guest : (image : List ℕ) (a b : Guest) → guest_at image ≡ Ok a → guest_at image ≡ Ok b → a ≡ b
same_guest image a b x y = same (sym x ∙ y)
  where
    same : {A E : Type 0} {x y : A} → ◌≡◌ {A = Result A E} (Ok x) (Ok y) → x ≡ y
    same e = cc e

same_setup : (setup : Setup) (image : List ℕ) (plan : Plan) (trace : Recorded) (outputs : List (List ℕ)) → (h : IsUncutRecording setup image plan trace outputs)
    → recorded_setup image plan trace outputs h.recorded ≡ setup
same_setup setup image plan trace outputs h =
    let g : h.recorded.guest ≡ setup.guest = same_guest image h.recorded.guest setup.guest h.recorded.is h.guest in
    λ i. record { guest = g i; profile = h.profile i; random = h.random i; input = h.input i }

pub recordings_outcomes : RecordingsHaveOutcomes
recordings_outcomes setup image plan trace outputs (h, no_clock) =
    let e = same_setup setup image plan trace outputs h in
    subst (λ z. (x : RunOutcome) × IsOfOutcome z plan.budget trace outputs x × IsOutcomeOf z x) e
    (recorded_setup_has_outcome image plan trace outputs h.recorded
    (subst (λ (z : Setup). AreUntimed (length z.guest.entries) trace) (sym e) no_clock)
    (subst (λ (z : Setup). AreUncut (length z.guest.entries) trace) (sym e) h.uncut))

pub recordings_are_listed : RecordingsAreListed
recordings_are_listed guest explored k image plan trace outputs are finished h =
    let r = recordings_outcomes _ image plan trace outputs h in
    (r.0, r.1, (are.all finished r.0).0 r.2)

pub recordings_are_untimed : RecordingsAreUntimed
recordings_are_untimed setup image plan trace outputs h none =
    let r = h.recorded in
    let e = same_setup setup image plan trace outputs h in
    let some : IsRecordingOfSome r.guest plan.budget plan.profile (unasked r.guest) trace outputs r.answers =
    recording_is_of_some_run plan.order r.guest plan.budget plan.profile trace outputs r.answers r.recorded in
    subst (λ (z : Setup). AreUntimed (length z.guest.entries) trace) e
    (untimed_if_no_timed_run (recorded_setup image plan trace outputs r) plan.budget (is_some plan.order) some.0 trace outputs r.answers some.1 r.answered
    (subst (λ (z : Setup). AreUncut (length z.guest.entries) trace) (sym e) h.uncut) (subst (λ z. HasTimedRun z → ⊥) (sym e) none))

pub untimed_are_listed : UntimedRecordingsAreListed
untimed_are_listed guest explored k image plan trace outputs are finished untimed h =
    recordings_are_listed guest explored k image plan trace outputs are finished
    (h, recordings_are_untimed _ image plan trace outputs h (λ has. absurd (cc (sym (are.untimed finished has) ∙ untimed))))

pub recordings_never_fulfil : RecordingsNeverFulfil
recordings_never_fulfil setup conditions image plan trace outputs never h =
    let r = recordings_outcomes setup image plan trace outputs h in
    (r.0, r.1, never r.0 r.2)
