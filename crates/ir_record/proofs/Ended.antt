-- What was recorded once no thread has a step.
use Rattle.ir_thread.specs.declared.profile.Profile.{Profile}
use Rattle.std.proofs.Common.{◌≡◌, ◌≢◌, ℕ, ◌<◌, Bool, List, [], ◌∷◌, ◌++◌, length, map, replicate, Some, None, refl, sym, ap, ◌∙◌, subst, arith, inl, inr, ◌⊎◌}
use Rattle.std.proofs.lemmas.Bool.{cases_lt}
use Rattle.std.proofs.lemmas.List.{get_or-replicate, length-replicate, length-map}
use Rattle.std.proofs.lemmas.Option.{slice_get-get_or, slice_get-map}
use Rattle.std.specs.List.{slice_get, AllByRecursion}
use Rattle.std.specs.Prelude.{option_map}
use Rattle.ir_image.specs.Guest.{Guest, object_count}
use Rattle.ir_thread.specs.State.{ask_of, most_events, shared_ask, thread_machine}
use Rattle.ir_thread.specs.Permitted.{Permits}
use Rattle.ir_runs.specs.Machine as machine
use Rattle.ir_thread.specs.State as thread
use Rattle.ir_thread.proofs.CallerLemmas.{ask_of_permitted}
use Rattle.ir_runs.specs.Machine.{Admits, target}
use Rattle.ir_flat.specs.Flat.{Flat, thread_of, tables, machine, idle, start_flat, start_threads}
use Rattle.ir_runs.specs.Run.{State, Step, asked, Can, IsRun, end, log, IsDone, rounds, HasNone}
use Rattle.ir_flat.proofs.CallerLemmas.{start_thread_is_fresh, length_of_start_threads, length_of_start_cells, guest_run_not_stuck, guest_start_is_idle, shared_done_is_done}
use Rattle.ir_runs.proofs.CallerLemmas.{idle_after_run}
use Rattle.ir_log.specs.Logged.{Logged}
use Rattle.ir_log.specs.Logging.{label_of}
use Rattle.ir_trace.specs.Recorded.{Recorded}
use Rattle.ir_trace.specs.Bounds.{IsEvent}
use Rattle.ir_record.specs.Gathered.{AreThreadTraces}
use Rattle.ir_record.specs.Progress.{Progress, TookTurns, IsReadyToRecord, log_at, no_log}
use Rattle.ir_record.specs.Refusing.{Turn, plain_turns}
use Rattle.ir_record.specs.Worlds.{answers_at, AnsweredCall, NoneFailed}
use Rattle.ir_record.specs.Recordings.{IsRecordingByTurns}
use Rattle.ir_record.proofs.Profiles.{profile_after_run, profile_of_start_thread}
use Rattle.ir_record.proofs.Refusing.{is_run_if_in_turns}
use Rattle.ir_record.proofs.Telling.{StandAtEnd, emitted_there, printed_there, answered_there}

-- ---- the start

-- a log without events
abbrev pub new_log : Logged
new_log = record { events = []; room = most_events }

-- a recording before the first step
abbrev pub start : Guest → ℕ → Profile → List (List AnsweredCall) → Progress
start guest budget profile answers = record { flat = start_flat guest budget profile; logs = replicate (length guest.entries) new_log; answers = answers }

pub start_is_ready : (guest : Guest) (budget : ℕ) (profile : Profile) (answers : List (List AnsweredCall)) (failed : List Bool) → length answers ≡ length guest.entries
    → NoneFailed failed → IsReadyToRecord (start guest budget profile answers) failed
start_is_ready guest budget profile answers failed size works =
    let n : length (start_threads guest budget profile 0 (length guest.entries)) ≡ length guest.entries =
    length_of_start_threads guest budget profile 0 (length guest.entries) in
    let own : (t : ℕ) → t < length (start_threads guest budget profile 0 (length guest.entries))
    → log_at (replicate (length guest.entries) new_log) t ≡ new_log =
    λ t l. get_or-replicate (length guest.entries) t new_log no_log (omega (arith, l, n)) in
    record {
      has_logs = record {
        one_each = length-replicate (length guest.entries) new_log ∙ sym n;
        rooms = λ t l. ap (λ z. z.room) (own t l);
        counts = λ t l. ap (λ z. length z.events) (own t l) ∙ sym (start_thread_is_fresh guest budget profile 0 (length guest.entries) t).events;
        events_fit = λ t l. subst (λ z. AllByRecursion (IsEvent (thread_of (start_flat guest budget profile) t).profile
            (length (start_flat guest budget profile).objects)) z.events) (sym (own t l)) tt;
      };
      worlds = size ∙ sym n;
      works = works;
    }

-- ---- the end

pub ask_is_done_or_not : (q : machine.Ask) → (q ≡ machine.Done) ⊎ (q ≢ machine.Done)
ask_is_done_or_not machine.Private = inr (λ e. cc e)
ask_is_done_or_not (machine.Env k) = inr (λ e. cc e)
ask_is_done_or_not (machine.Enter o a) = inr (λ e. cc e)
ask_is_done_or_not (machine.Try o) = inr (λ e. cc e)
ask_is_done_or_not (machine.Leave o a) = inr (λ e. cc e)
ask_is_done_or_not (machine.Get o i) = inr (λ e. cc e)
ask_is_done_or_not (machine.Put o i w) = inr (λ e. cc e)
ask_is_done_or_not machine.Done = inl refl

-- where none of the guest's threads has a step, all threads are done
no_steps_run_is_done : (guest : Guest) (budget : ℕ) (profile : Profile) (run : List Step) → IsRun (thread_machine guest.code) (tables (start_flat guest budget profile)) run
    → ((t : ℕ) → t < length guest.entries → HasNone (thread_machine guest.code)
    (end (thread_machine guest.code) (tables (start_flat guest budget profile)) run) t)
    → IsDone (thread_machine guest.code) (end (thread_machine guest.code) (tables (start_flat guest budget profile)) run)
no_steps_run_is_done guest budget profile run ok none t =
    let s : State thread.ThreadState = end (thread_machine guest.code) (tables (start_flat guest budget profile)) run in
    elim (ask_is_done_or_not (asked (thread_machine guest.code) s t)) [
      | inl e ↦ e
      | inr ne ↦ absurd (stuck (guest_run_not_stuck guest budget profile run ok t ne))
    ]
  where
    stuck : ((u : ℕ) × Can (thread_machine guest.code) (end (thread_machine guest.code) (tables (start_flat guest budget profile)) run) (u, 0)) → ⊥
    stuck step = elim (cases_lt step.0 (length guest.entries)) [
      | inl l ↦ none step.0 l 0 step.1
      | inr past ↦ subst (λ q. Admits (thread_machine guest.code) (machine.act_of q 0)
          ((end (thread_machine guest.code) (tables (start_flat guest budget profile)) run).objects (target (machine.act_of q 0))))
          (idle_after_run (thread_machine guest.code) (tables (start_flat guest budget profile)) (length guest.entries) (guest_start_is_idle guest budget profile) run ok
          step.0 past) step.1
    ]

-- a thread that is done has ended
done_ask_has_ended : (code : List ℕ) (x : thread.ThreadState) → shared_ask (ask_of code x) ≡ machine.Done → x.ended ≢ None
done_ask_has_ended code x e = (subst (Permits x) (shared_done_is_done (ask_of code x) e) (ask_of_permitted code x)).0

-- ---- the whole recording

-- a recording at its end: these turns, and rounds, until no thread has a step
pub record RecordingOver (guest : Guest) (budget : ℕ) (profile : Profile) (turns : List Turn) (before : List (List AnsweredCall)) (b : Progress) : Type 0 where
  pub count : ℕ
  pub took : TookTurns (turns ++ plain_turns (rounds (length guest.entries) count)) (start guest budget profile before) b
  pub none : (t : ℕ) → t < length b.flat.threads → HasNone (machine b.flat) (tables b.flat) t

module _ {guest : Guest} {budget : ℕ} {profile : Profile} {turns : List Turn} {before : List (List AnsweredCall)} {b : Progress}
    (o : RecordingOver guest budget profile turns before b) where
  pub threads_there : length b.flat.threads ≡ length guest.entries
  threads_there = o.took.moved.threads ∙ length_of_start_threads guest budget profile 0 (length guest.entries)

  pub objects_there : length b.flat.objects ≡ object_count guest
  objects_there = o.took.moved.objects ∙ length_of_start_cells guest 0 (object_count guest)

  pub profiles_there : (t : ℕ) → t < length b.flat.threads → (thread_of b.flat t).profile ≡ profile
  profiles_there t l =
      ap (λ s. (s.now t).profile) o.took.moved.ends ∙ profile_after_run guest.code (tables (start_flat guest budget profile)) o.took.run t
      ∙ profile_of_start_thread guest budget profile 0 (length guest.entries) t (let n = threads_there in omega (arith, l, n))

  run_of_it : IsRun (thread_machine guest.code) (tables (start_flat guest budget profile)) o.took.run
  run_of_it = is_run_if_in_turns (thread_machine guest.code) (tables (start_flat guest budget profile))
      (turns ++ plain_turns (rounds (length guest.entries) o.count)) o.took.run o.took.in_turns

  done_there : IsDone (thread_machine guest.code) (end (thread_machine guest.code) (tables (start_flat guest budget profile)) o.took.run)
  done_there = no_steps_run_is_done guest budget profile o.took.run run_of_it
      (λ t l. subst (λ s. HasNone (thread_machine guest.code) s t) o.took.moved.ends
      (subst (λ c. HasNone (thread_machine c) (tables b.flat) t) o.took.moved.code
      (o.none t (let n = threads_there in omega (arith, l, n)))))

  pub ended_there : (t : ℕ) → (thread_of b.flat t).ended ≢ None
  ended_there t = done_ask_has_ended guest.code (thread_of b.flat t) (ap (λ s. shared_ask (ask_of guest.code (s.now t))) o.took.moved.ends ∙ done_there t)

  -- what is at hand at its end
  at_end : StandAtEnd guest budget profile o.took.run before (thread_of b.flat) (log_at b.logs) (answers_at b.answers)
  at_end =
      let n : length (start_threads guest budget profile 0 (length guest.entries)) ≡ length guest.entries =
      length_of_start_threads guest budget profile 0 (length guest.entries) in
      let f0 : Flat = start_flat guest budget profile in
      record {
        runs = run_of_it;
        threads = λ t l. ap (λ s. s.now t) o.took.moved.ends;
        logged = λ t l. o.took.moved.logs t (omega (arith, l, n))
            ∙ ap (λ z. map label_of z.events ++ log (machine f0) (tables f0) o.took.run t)
            (get_or-replicate (length guest.entries) t new_log no_log l);
        answered = λ t l. o.took.moved.answers t (omega (arith, l, n));
      }

  pub recorded_there : (failed : List Bool) → IsReadyToRecord b failed
      → (trace : Recorded) → trace.objects ≡ length b.flat.objects → trace.budget ≡ budget → trace.profile ≡ profile
      → AreThreadTraces b.flat b.logs trace.threads
      → (outputs : List (List ℕ)) → outputs ≡ map (λ x. x.output) b.flat.threads
      → (answers : List (List AnsweredCall)) → answers ≡ b.answers → IsRecordingByTurns guest budget profile turns before trace outputs answers
  recorded_there failed ready trace objects limit same traces outputs printed answers given =
      let n : length b.flat.threads ≡ length guest.entries = threads_there in
      let logs : length b.logs ≡ length guest.entries = ready.has_logs.one_each ∙ n in
      let size : length answers ≡ length guest.entries = ap (λ z. length z) given ∙ ready.worlds ∙ n in (
        o.took.run,
        record { count = o.count; in_turns = o.took.in_turns; done = done_there },
        record {
          emitted = emitted_there at_end done_there trace (objects ∙ objects_there) limit same (traces.count ∙ logs) (λ t l. traces.each t (omega (arith, l, logs)));
          printed = printed_there at_end outputs
              (ap (λ z. length z) printed ∙ length-map b.flat.threads (λ x. x.output) ∙ n)
              (λ t l. ap (λ z. slice_get z t) printed ∙ slice_get-map (λ x. x.output) b.flat.threads t
              ∙ ap (option_map (λ x. x.output)) (slice_get-get_or b.flat.threads t idle (omega (arith, l, n))));
          answered = answered_there at_end answers size
              (λ t l. slice_get-get_or answers t [] (omega (arith, l, size)) ∙ ap (λ z. Some (answers_at z t)) given);
        },
      )

-- the recording that was made is one before the first step
pub new_is_start_progress : (guest : Guest) (budget : ℕ) (profile : Profile) (answers : List (List AnsweredCall)) {f : Flat} {logs : List Logged}
    → f ≡ start_flat guest budget profile → logs ≡ replicate (length guest.entries) new_log
    → ◌≡◌ {A = Progress} (record { flat = f; logs = logs; answers = answers }) (start guest budget profile answers)
new_is_start_progress guest budget profile answers p q = λ i. record { flat = p i; logs = q i; answers = answers }

pub over_if_no_step : {guest : Guest} {budget : ℕ} {profile : Profile} {turns : List Turn} {before : List (List AnsweredCall)}
    {f : Flat} {logs : List Logged} {b : Progress} → f ≡ start_flat guest budget profile → logs ≡ replicate (length guest.entries) new_log
    → ((count : ℕ) × TookTurns (turns ++ plain_turns (rounds (length f.threads) count)) (record { flat = f; logs = logs; answers = before }) b)
    → ((t : ℕ) → t < length b.flat.threads → HasNone (machine b.flat) (tables b.flat) t) → RecordingOver guest budget profile turns before b
over_if_no_step {guest} {budget} {profile} {turns} {before} {f} {logs} {b} p q k none = record {
  count = k.0;
  took = subst (λ n. TookTurns (turns ++ plain_turns (rounds n k.0)) (start guest budget profile before) b)
      (ap (λ z. length z.threads) p ∙ length_of_start_threads guest budget profile 0 (length guest.entries))
      (subst (λ z. TookTurns (turns ++ plain_turns (rounds (length f.threads) k.0)) z b) (new_is_start_progress guest budget profile before p q) k.1);
  none = none;
}

pub map_of_composition : {A B C : Type 0} (f : B → C) (h : A → B) (xs : List A) (ys : List B) → map h xs ≡ ys → map (λ x. f (h x)) xs ≡ map f ys
map_of_composition {A} {B} {C} f h xs ys e = twice xs ∙ ap (map f) e
  where
    twice : (zs : List A) → map (λ x. f (h x)) zs ≡ map f (map h zs)
    twice [] = refl
    twice (z ∷ zs) = ap (λ w. f (h z) ∷ w) (twice zs)
