-- One run made of what the workers did.
use Rattle.ir_thread.specs.declared.profile.Profile.{Profile}
use Rattle.std.proofs.Common.{◌≡◌, ℕ, zero, suc, ◌+◌, ◌*◌, ◌/◌, ◌%◌, ◌<◌, ◌≤◌, List, [], ◌∷◌, ◌++◌, map, length, get_or, take, drop, refl, sym, ap, ◌∙◌, subst, arith, inl, inr}
use Rattle.std.proofs.Math.Path.{fun_ext}
use Rattle.std.proofs.lemmas.Bool.{cases_lt}
use Rattle.std.proofs.lemmas.List.{length-map, get_or_past}
use Rattle.std.proofs.lemmas.Option.{slice_get-get_or, slice_get-map}
use Rattle.std.specs.List.{slice_get}
use Rattle.std.specs.Prelude.{option_map}
use Rattle.ir_image.specs.Guest.{limits_of, Guest, object_count, object_words, first_words}
use Rattle.ir_image.specs.Bounds.{IsGuest}
use Rattle.ir_image.specs.declared.form.ImageForm.{ImageForm}
use Rattle.ir_image.specs.declared.form.ImageForm.TheVariants.{Small, Large}
use Rattle.ir_thread.specs.State.{ask_of, shared_ask, thread_machine}
use Rattle.ir_runs.specs.Machine as machine
use Rattle.ir_runs.specs.Machine.{Machine}
use Rattle.ir_thread.specs.State as thread
use Rattle.ir_thread.specs.declared.ask.Ask.TheVariants as ask
use Rattle.ir_object.specs.Cell.{Cell}
use Rattle.ir_object.specs.Empty.{empty}
use Rattle.ir_object.specs.Order.{Shared, of_thread, order_labels, IsAllowedStep}
use Rattle.ir_object.proofs.CallerLemmas.{legal_order_is_allowed, missing_thread_no_steps}
use Rattle.ir_image.proofs.CallerLemmas.{get_or_zero-padded}
use Rattle.ir_crew.specs.Ends.{AreCrewTracks, IsCrewEnd}
use Rattle.ir_crew.specs.Plays.{M}
use Rattle.ir_crew.specs.Rule.{CrewView, IsTrackOfRule, start_objects}
use Rattle.ir_flat.specs.Flat.{Flat, thread_of, cell_of, tables, idle, start_flat, start_threads, start_cells, MayRun, alone_after}
use Rattle.ir_runs.specs.Run.{State, Step, events, log}
use Rattle.ir_flat.specs.Splice.{shared_steps, splice}
use Rattle.ir_flat.specs.Trails.{alone_trail}
use Rattle.ir_flat.proofs.CallerLemmas.{length_of_start_cells, start_fields_are_zero, start_words_are_first, none_inside_at_start, guest_start_is_idle, splice_runs_with_trails, get_or-start_threads}
use Rattle.ir_log.specs.Logged.{Logged}
use Rattle.ir_log.specs.Logging as logging
use Rattle.ir_trace.specs.Recorded.{Recorded}
use Rattle.ir_trace.specs.Absent.{absent}
use Rattle.ir_record.specs.Gathered.{IsThreadTrace}
use Rattle.ir_record.specs.Progress.{no_log}
use Rattle.ir_record.specs.Worlds.{answers_at, AnsweredCall, answers_in}
use Rattle.ir_record.specs.Recordings.{IsRecordingOfSome}
use Rattle.ir_record.specs.Working.{WorkerWork, IsWorking}
use Rattle.ir_record.proofs.Telling.{StandAtEnd, emitted_there, printed_there, answered_there}

-- ---- the start

-- an object that the guest doesn't have has no words
words_within_objects : (form : ImageForm) (words o : ℕ) → words % (limits_of form).words ≡ 0 → words / (limits_of form).words ≤ o
    → words ≤ (limits_of form).words * o
words_within_objects Small words o whole past = omega (arith, whole, past)
words_within_objects Large words o whole past = omega (arith, whole, past)

drop_past_end : (k : ℕ) (ws : List ℕ) → length ws ≤ k → drop k ws ≡ []
drop_past_end zero [] l = refl
drop_past_end zero (w ∷ ws) l = absurd (omega (arith, l))
drop_past_end (suc k) [] l = refl
drop_past_end (suc k) (w ∷ ws) l = drop_past_end k ws (omega (arith, l))

take_of_empty : (k : ℕ) → take {A = ℕ} k [] ≡ []
take_of_empty zero = refl
take_of_empty (suc k) = refl

missing_words_are_zero : (g : Guest) (o j : ℕ) → IsGuest g → object_count g ≤ o → get_or (first_words g o) j 0 ≡ 0
missing_words_are_zero g o j guest past = get_or_zero-padded (take (object_words g) (drop (object_words g * o) g.words)) j
    ∙ ap (λ ws. get_or (take (object_words g) ws) j 0)
    (drop_past_end (object_words g * o) g.words (words_within_objects g.form (length g.words) o guest.whole_objects past))
    ∙ ap (λ ws. get_or ws j 0) (take_of_empty (object_words g))

start_tables_objects : (g : Guest) (budget : ℕ) (profile : Profile) → IsGuest g → (tables (start_flat g budget profile)).objects ≡ start_objects g
start_tables_objects g budget profile guest = fun_ext (λ o. λ i. record {
  version = ap (λ f. f.version) (start_fields_are_zero g 0 (object_count g) o) i;
  left = ap (λ f. f.left) (start_fields_are_zero g 0 (object_count g) o) i;
  inside = fun_ext (λ t. none_inside_at_start g budget profile o t) i;
  words = fun_ext (contents o) i;
})
  where
    contents : (o j : ℕ) → get_or (cell_of (start_flat g budget profile) o).words j 0 ≡ get_or (first_words g o) j 0
    contents o j = elim (cases_lt o (object_count g)) [
      | inl l ↦ ap (λ ws. get_or ws j 0) (start_words_are_first g 0 (object_count g) o l ∙ ap (first_words g) (let e : 0 + o ≡ o = omega arith in e))
      | inr past ↦ ap (λ c. get_or c.words j 0) (get_or_past (start_cells g 0 (object_count g)) o empty
          (let n = length_of_start_cells g 0 (object_count g) in omega (arith, n, past)))
          ∙ sym (missing_words_are_zero g o j guest past)
    ]

-- ---- the workers at the end

abbrev pub no_work : WorkerWork
no_work = record { me = ([], []); thread = idle; log = no_log; answers = [] }

abbrev pub work_at : List WorkerWork → ℕ → WorkerWork
work_at ws t = get_or ws t no_work

-- the tracks of all
abbrev pub tracks_of : List WorkerWork → CrewView
tracks_of [] = []
tracks_of (w ∷ ws) = w.me.0 ++ tracks_of ws

left_views_have_tracks : (g : Guest) (es : List (ℕ × Shared)) (v w : CrewView) → AreCrewTracks g es (v ++ w) → AreCrewTracks g es v
left_views_have_tracks g es [] w h = tt
left_views_have_tracks g es (k ∷ v) w h = (h.0, left_views_have_tracks g es v w h.1)

right_views_have_tracks : (g : Guest) (es : List (ℕ × Shared)) (v w : CrewView) → AreCrewTracks g es (v ++ w) → AreCrewTracks g es w
right_views_have_tracks g es [] w h = h
right_views_have_tracks g es (k ∷ v) w h = right_views_have_tracks g es v w h.1

worker_view_tracks : (g : Guest) (es : List (ℕ × Shared)) (ws : List WorkerWork) (t : ℕ) → t < length ws → AreCrewTracks g es (tracks_of ws)
    → AreCrewTracks g es (work_at ws t).me.0
worker_view_tracks g es [] t l h = absurd (omega arith)
worker_view_tracks g es (w ∷ ws) zero l h = left_views_have_tracks g es w.me.0 (tracks_of ws) h
worker_view_tracks g es (w ∷ ws) (suc t) l h = worker_view_tracks g es ws t (omega (arith, l)) (right_views_have_tracks g es w.me.0 (tracks_of ws) h)

-- what the workers of all threads have done
pub record AllWorkDone (g : Guest) (budget : ℕ) (profile : Profile) (before : List (List AnsweredCall)) (ws : List WorkerWork) : Type 0 where
  pub guest : IsGuest g
  pub size : length ws ≡ length g.entries
  pub working : (t : ℕ) → t < length g.entries → IsWorking g budget profile t (answers_at before t) (work_at ws t)
  pub done : (t : ℕ) → t < length g.entries → ask_of g.code (work_at ws t).thread ≡ ask.Done

-- the part of thread t in an order of all object steps
record ThreadPart (g : Guest) (budget : ℕ) (profile : Profile) (ws : List WorkerWork) (es : List (ℕ × Shared)) (t : ℕ) : Type 0 where
  replies : List ℕ
  may : MayRun (thread_machine g.code) (thread_of (start_flat g budget profile) t) replies
  steps_are : shared_steps (thread_machine g.code) (thread_of (start_flat g budget profile) t) replies ≡ of_thread t es
  none : length g.entries ≤ t → replies ≡ []
  done : shared_ask (ask_of g.code (alone_after (thread_machine g.code) (thread_of (start_flat g budget profile) t) replies)) ≡ machine.Done
  threads_are : t < length g.entries → alone_after (thread_machine g.code) (thread_of (start_flat g budget profile) t) replies ≡
      (work_at ws t).thread
  logged : t < length g.entries → events (alone_trail (thread_machine g.code) (thread_of (start_flat g budget profile) t) replies
      (of_thread t (order_labels (start_objects g) es))) ≡ map logging.label_of (work_at ws t).log.events

module _ {g : Guest} {budget : ℕ} {profile : Profile} {before : List (List AnsweredCall)} {ws : List WorkerWork} {v : CrewView} {objects : List Cell}
    (over : AllWorkDone g budget profile before ws) (e : IsCrewEnd g v objects) (view : v ≡ tracks_of ws) where
  part : (t : ℕ) → ThreadPart g budget profile ws e.steps t
  part t = elim (cases_lt t (length g.entries)) [
    | inl l ↦
        let i = over.working t l in
        let x0 : thread_of (start_flat g budget profile) t ≡ thread.start_state g t budget profile =
        get_or-start_threads g budget profile 0 (length g.entries) t l
        ∙ ap (λ z. thread.start_state g z budget profile) (let z : 0 + t ≡ t = omega arith in z) in
        let track : IsTrackOfRule (length g.entries) (start_objects g) e.steps (record { thread = t; steps = i.track }) =
        (subst (AreCrewTracks g e.steps) (ap (λ (z : M). z.0) i.view)
        (worker_view_tracks g e.steps ws t (let n = over.size in omega (arith, n, l)) (subst (AreCrewTracks g e.steps) view e.tracks))).0 in
        let m = thread_machine g.code in
        let w = i.worked in
        record {
          replies = w.replies;
          may = subst (λ x. MayRun m x w.replies) (sym x0) w.may;
          steps_are = ap (λ x. shared_steps m x w.replies) x0 ∙ w.steps_are ∙ sym track.steps_are;
          none = λ past. absurd (omega (arith, past, l));
          done = ap (λ x. shared_ask (ask_of g.code (alone_after m x w.replies))) x0 ∙ ap (λ x. shared_ask (ask_of g.code x)) w.now
              ∙ ap shared_ask (over.done t l);
          threads_are = λ _. ap (λ x. alone_after m x w.replies) x0 ∙ w.now;
          logged = λ _. ap (λ x. events (alone_trail m x w.replies (of_thread t (order_labels (start_objects g) e.steps)))) x0
              ∙ ap (λ z. events (alone_trail m (thread.start_state g t budget profile) w.replies z)) track.labels_are ∙ w.logged;
        }
    | inr past ↦ record {
      replies = [];
      may = tt;
      steps_are = sym (missing_thread_no_steps (thread_machine g.code) (length g.entries) (object_count g) (start_objects g) e.steps e.legal t past);
      none = λ _. refl;
      done = guest_start_is_idle g budget profile t past;
      threads_are = λ l. absurd (omega (arith, past, l));
      logged = λ l. absurd (omega (arith, past, l));
    }
  ]

  -- one run of them all
  pub recorded_of : (trace : Recorded) → trace.objects ≡ object_count g → trace.budget ≡ budget → trace.profile ≡ profile
      → length trace.threads ≡ length g.entries
      → ((t : ℕ) → t < length g.entries → IsThreadTrace (work_at ws t).thread (work_at ws t).log (get_or trace.threads t absent))
      → (outputs : List (List ℕ)) → outputs ≡ map (λ w. w.thread.output) ws → (answers : List (List AnsweredCall))
      → answers ≡ map (λ w. w.answers) ws → IsRecordingOfSome g budget profile before trace outputs answers
  recorded_of trace counted limit same_profile all traces outputs printed answers given =
      let m : Machine thread.ThreadState = thread_machine g.code in
      let f : Flat = start_flat g budget profile in
      let s : State thread.ThreadState = tables f in
      let rs : ℕ → List ℕ = λ t. (part t).replies in
      let same : s.objects ≡ start_objects g = start_tables_objects g budget profile over.guest in
      let run : List Step = splice m s.now rs (length g.entries) e.steps in
      let k = splice_runs_with_trails m s.now s.objects rs (length g.entries) e.steps (λ t l. (part t).none l) (λ t. (part t).may)
      (λ t. (part t).steps_are) (subst (λ z. IsAllowedStep m z e.steps) (sym same)
      (legal_order_is_allowed m (length g.entries) (object_count g) (start_objects g) e.steps e.legal)) in
      let now : ℕ → thread.ThreadState = λ t. (work_at ws t).thread in
      let logs : ℕ → Logged = λ t. (work_at ws t).log in
      let emitted : ℕ → List AnsweredCall = λ t. (work_at ws t).answers in
      let own_log : (t : ℕ) → t < length g.entries → map logging.label_of (logs t).events ≡ log m s run t = λ t l.
      sym (ap events (k.trails t) ∙ ap (λ z. events (alone_trail m (s.now t) (rs t) (of_thread t (order_labels z e.steps)))) same
      ∙ (part t).logged l) in
      let stand : StandAtEnd g budget profile run before now logs emitted = record {
        runs = k.ok;
        threads = λ t l. sym (k.threads t ∙ (part t).threads_are l);
        logged = own_log;
        answered = λ t l. (over.working t l).answered ∙ ap (λ z. answers_at before t ++ answers_in z) (own_log t l);
      } in
      let size = over.size in (
        run,
        record {
          emitted = emitted_there stand (λ t. ap (λ x. shared_ask (ask_of g.code x)) (k.threads t) ∙ (part t).done)
              trace counted limit same_profile all traces;
          printed = printed_there stand outputs
              (ap (λ z. length z) printed ∙ length-map ws (λ w. w.thread.output) ∙ size)
              (λ t l. ap (λ z. slice_get z t) printed ∙ slice_get-map (λ w. w.thread.output) ws t
              ∙ ap (option_map (λ w. w.thread.output)) (slice_get-get_or ws t no_work (omega (arith, l, size))));
          answered = answered_there stand answers
              (ap (λ z. length z) given ∙ length-map ws (λ w. w.answers) ∙ size)
              (λ t l. ap (λ z. slice_get z t) given ∙ slice_get-map (λ w. w.answers) ws t
              ∙ ap (option_map (λ w. w.answers)) (slice_get-get_or ws t no_work (omega (arith, l, size))));
        },
      )
