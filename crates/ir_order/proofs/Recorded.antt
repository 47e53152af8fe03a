-- What is recorded by an order is of the run by it.
use Rattle.std.proofs.Common.{◌≡◌, ◌<◌, ℕ, true, List, [], ◌++◌, length, get_or, Option, Some, Ok, refl, sym, ap, ◌∙◌, subst}
use Rattle.std.specs.Option.{is_some}
use Rattle.std.proofs.lemmas.List.{get_or-replicate}
use Rattle.std.proofs.lemmas.Option.{get_or_from_slice_get}
use Rattle.ir_image.specs.Guest.{Guest, guest_at}
use Rattle.ir_runs.specs.Machine.{Machine, Trace}
use Rattle.ir_runs.specs.Run.{State, Step, IsRun, IsDone, end, events, log, IsWhole}
use Rattle.ir_thread.specs.declared.profile.Profile.{Profile}
use Rattle.ir_flat.specs.Flat.{start_flat, tables, machine}
use Rattle.ir_trace.specs.Recorded.{Recorded, trace_of}
use Rattle.ir_record.specs.Recording.{AreAnswers, IsRecordingOf}
use Rattle.ir_record.specs.Recordings.{IsRecordingByTurns}
use Rattle.ir_record.specs.Refusing.{Turn, plain_turns}
use Rattle.ir_record.proofs.CallerLemmas.{is_run_if_in_turns}
use Rattle.ir_record.specs.Worlds.{AnsweredCall, answers_in}
use Rattle.ir_record_command.specs.Order.{order_of}
use Rattle.ir_record_command.specs.Plan.{Plan}
use Rattle.ir_record_command.specs.Recording.{unasked, IsRecordedBy, IsRecordedOf}
use Rattle.ir_world.specs.Sources.{origin_of, IsAnsweredFrom}
use Rattle.ir_order.specs.OneRun.{AreSameRuns, IsAnsweredByTurns}
use Rattle.ir_order.specs.Recording.{IsPlanned, IsPlannedInTurns, IsOfRun, RecordingsAreOfTheRun, OneRecordingByAList}
use Rattle.ir_order.proofs.OneRun.{one_run_by_turns, answered_by_plain_turns}
use Rattle.ir_order.proofs.Traces.{run_recording_unique}

is_whole_of_same_run : {T : Type 0} (m : Machine T) (s : State T) (n : ℕ) (tr : Trace) (a b : List Step) → AreSameRuns m s a b → IsRun m s a
    → IsDone m (end m s a) → IsWhole m s n tr b → IsWhole m s n tr a
is_whole_of_same_run m s n tr a b same runs done w = record {
  runs = runs;
  done = done;
  steps = λ t l. ap length (same.trails t) ∙ w.steps t l;
  logs = λ t l. ap events (same.trails t) ∙ w.logs t l;
  ends = λ t l. ap (λ z. m.ended (z.now t)) same.ends ∙ w.ends t l;
}

-- what is recorded of a run is of each that is the same
recording_is_of_same_run : (guest : Guest) (budget : ℕ) (profile : Profile) (turns : List Turn) (run b : List Step) (before : List (List AnsweredCall)) (trace : Recorded)
    (outputs : List (List ℕ)) (answers : List (List AnsweredCall)) (made : _) → IsAnsweredByTurns guest budget profile turns made run
    → AreSameRuns (machine (start_flat guest budget profile)) (tables (start_flat guest budget profile)) run b
    → IsRecordingOf guest budget profile b before trace outputs answers → IsOfRun guest budget profile run trace outputs
recording_is_of_same_run guest budget profile turns run b before trace outputs answers made x same h =
    let f = start_flat guest budget profile in
    record {
      trace_of = record {
        objects = h.emitted.objects;
        limit = h.emitted.limit;
        profile_is = h.emitted.profile_is;
        threads = h.emitted.threads;
        whole = is_whole_of_same_run (machine f) (tables f) (length guest.entries) (trace_of trace) run b same
            (is_run_if_in_turns (machine f) (tables f) _ run x.by_turns.in_turns) x.by_turns.done h.emitted.whole;
      };
      printed = record {
        threads = h.printed.threads;
        each = λ t l. h.printed.each t l ∙ ap (λ z. Some (z.now t).output) (sym same.ends);
      };
    }

-- the answers that were kept of a thread are those in its log
kept_answers_are_logged : (guest : Guest) (budget : ℕ) (profile : Profile) (run : List Step) (answers : List (List AnsweredCall)) (t : ℕ) → t < length guest.entries
    → AreAnswers guest budget profile run (unasked guest) answers
    → get_or answers t [] ≡ answers_in (log (machine (start_flat guest budget profile)) (tables (start_flat guest budget profile)) run t)
kept_answers_are_logged guest budget profile run answers t l h =
    get_or_from_slice_get answers t _ [] (h.each t l)
    ∙ ap (λ (z : List AnsweredCall). z ++ answers_in (log (machine (start_flat guest budget profile)) (tables (start_flat guest budget profile)) run t))
    (get_or-replicate (length guest.entries) t [] [] l)

-- the run that was recorded was answered by the plan's sources
recorded_run_is_planned : (guest : Guest) (plan : Plan) (list : List ℕ) (turns : List Turn) (trace : Recorded) (outputs : List (List ℕ)) (answers : List (List AnsweredCall))
    → plan.order ≡ Some list → (r : IsRecordingByTurns guest plan.budget plan.profile turns (unasked guest) trace outputs answers)
    → ((t : ℕ) → t < length guest.entries → IsAnsweredFrom (origin_of (is_some plan.order) plan.random plan.input t) (get_or answers t []))
    → IsPlannedInTurns guest plan turns r.0
recorded_run_is_planned guest plan list turns trace outputs answers is r answered = record {
  by_turns = r.1;
  answered = λ t l. subst (IsAnsweredFrom (origin_of true plan.random plan.input t))
      (kept_answers_are_logged guest plan.budget plan.profile r.0 answers t l r.2.answered)
      (subst (λ c. IsAnsweredFrom (origin_of c plan.random plan.input t) (get_or answers t [])) (ap is_some is) (answered t l));
}

recording_is_of_planned_run : (guest : Guest) (plan : Plan) (list : List ℕ) (turns : List Turn) (run : List Step) (trace : Recorded) (outputs : List (List ℕ))
    (answers : List (List AnsweredCall)) → plan.order ≡ Some list → IsPlannedInTurns guest plan turns run
    → IsRecordingByTurns guest plan.budget plan.profile turns (unasked guest) trace outputs answers
    → ((t : ℕ) → t < length guest.entries → IsAnsweredFrom (origin_of (is_some plan.order) plan.random plan.input t) (get_or answers t []))
    → IsOfRun guest plan.budget plan.profile run trace outputs
recording_is_of_planned_run guest plan list turns run trace outputs answers is x r answered =
    recording_is_of_same_run guest plan.budget plan.profile turns run r.0 (unasked guest) trace outputs answers (origin_of true plan.random plan.input) x
    (one_run_by_turns guest plan.budget plan.profile turns (origin_of true plan.random plan.input) run r.0 (λ t l. refl) x
    (recorded_run_is_planned guest plan list turns trace outputs answers is r answered)) r.2

-- a run by an order is one by its turns
planned_in_plain_turns : (guest : Guest) (plan : Plan) (order : List ℕ) (run : List Step) → IsPlanned guest plan order run
    → IsPlannedInTurns guest plan (plain_turns order) run
planned_in_plain_turns guest plan order run x = answered_by_plain_turns guest plan.budget plan.profile order (origin_of true plan.random plan.input) run x

-- what is recorded in turns is of each run that the guest makes by their order with the same answers
pub recording_is_of_run : (guest : Guest) (plan : Plan) (order : List ℕ) (run : List Step) (trace : Recorded) (outputs : List (List ℕ)) (answers : List (List AnsweredCall))
    → IsPlanned guest plan order run → IsRecordingByTurns guest plan.budget plan.profile (plain_turns order) (unasked guest) trace outputs answers
    → ((t : ℕ) → t < length guest.entries → IsAnsweredFrom (origin_of true plan.random plan.input t) (get_or answers t []))
    → IsOfRun guest plan.budget plan.profile run trace outputs
recording_is_of_run guest plan order run trace outputs answers x r answered =
    recording_is_of_planned_run guest (record plan { order = Some [] }) [] (plain_turns order) run trace outputs answers refl (planned_in_plain_turns guest plan order run x) r
    answered

-- the same of a recording by the list
recording_by_list_is_of_run : (guest : Guest) (plan : Plan) (list : List ℕ) (turns : List Turn) (run : List Step) (trace : Recorded) (outputs : List (List ℕ))
    (answers : List (List AnsweredCall)) → plan.order ≡ Some list → order_of (length guest.entries) list ≡ Some turns
    → IsPlannedInTurns guest plan turns run
    → IsRecordedBy (Some list) guest plan.budget plan.profile trace outputs answers
    → ((t : ℕ) → t < length guest.entries → IsAnsweredFrom (origin_of (is_some plan.order) plan.random plan.input t) (get_or answers t []))
    → IsOfRun guest plan.budget plan.profile run trace outputs
recording_by_list_is_of_run guest plan list turns run trace outputs answers is spelled x (other, spelled', r) answered =
    let same : other ≡ turns = cc (spelled, spelled') in
    recording_is_of_planned_run guest plan list turns run trace outputs answers is x
    (subst (λ (z : List Turn). IsRecordingByTurns guest plan.budget plan.profile z (unasked guest) trace outputs answers) same r) answered

-- the same of the image's guest
recording_of_image_is_of_run : (image : List ℕ) (guest : Guest) (plan : Plan) (list : List ℕ) (turns : List Turn) (run : List Step) (trace : Recorded) (outputs : List (List ℕ))
    → plan.order ≡ Some list → (r : IsRecordedOf image plan trace outputs) → order_of (length r.guest.entries) list ≡ Some turns
    → IsPlannedInTurns r.guest plan turns run → IsOfRun r.guest plan.budget plan.profile run trace outputs
recording_of_image_is_of_run image guest plan list turns run trace outputs is r spelled x =
    recording_by_list_is_of_run r.guest plan list turns run trace outputs r.answers is spelled x
    (subst (λ (o : Option (List ℕ)). IsRecordedBy o r.guest plan.budget plan.profile trace outputs r.answers) is r.recorded) r.answered

pub list_recordings_of_run : RecordingsAreOfTheRun
list_recordings_of_run image guest plan list turns run trace outputs found is spelled x r =
    let same : guest ≡ r.guest = cc (found, r.is) in
    subst (λ (g : Guest). IsOfRun g plan.budget plan.profile run trace outputs) (sym same)
    (recording_of_image_is_of_run image guest plan list turns run trace outputs is r
    (subst (λ (g : Guest). order_of (length g.entries) list ≡ Some turns) same spelled)
    (subst (λ (g : Guest). IsPlannedInTurns g plan turns run) same x))

-- the same of a list that refuses no try
pub plain_recordings_of_run : (image : List ℕ) (guest : Guest) (plan : Plan) (list order : List ℕ) (run : List Step) (trace : Recorded) (outputs : List (List ℕ))
    → guest_at image ≡ Ok guest → plan.order ≡ Some list → order_of (length guest.entries) list ≡ Some (plain_turns order)
    → IsPlanned guest plan order run → IsRecordedOf image plan trace outputs
    → IsOfRun guest plan.budget plan.profile run trace outputs
plain_recordings_of_run image guest plan list order run trace outputs found is spelled x r =
    list_recordings_of_run image guest plan list (plain_turns order) run trace outputs found is spelled (planned_in_plain_turns guest plan order run x) r

-- the run that was recorded with a list
record RecordedRun (image : List ℕ) (plan : Plan) (list : List ℕ) (guest : Guest) (trace : Recorded) (outputs : List (List ℕ)) : Type 0 where
  turns : List Turn
  run : List Step
  spelled : order_of (length guest.entries) list ≡ Some turns
  planned : IsPlannedInTurns guest plan turns run
  of : IsOfRun guest plan.budget plan.profile run trace outputs

recording_by_list_has_run : (image : List ℕ) (plan : Plan) (list : List ℕ) (guest : Guest) (trace : Recorded) (outputs : List (List ℕ)) (answers : List (List AnsweredCall))
    → plan.order ≡ Some list → IsRecordedBy (Some list) guest plan.budget plan.profile trace outputs answers
    → ((t : ℕ) → t < length guest.entries → IsAnsweredFrom (origin_of (is_some plan.order) plan.random plan.input t) (get_or answers t []))
    → RecordedRun image plan list guest trace outputs
recording_by_list_has_run image plan list guest trace outputs answers is (turns, spelled, r) answered = record {
  turns = turns;
  run = r.0;
  spelled = spelled;
  planned = recorded_run_is_planned guest plan list turns trace outputs answers is r answered;
  of = record { trace_of = r.2.emitted; printed = r.2.printed };
}

recordings_by_list_equal_of_run : (image : List ℕ) (plan : Plan) (list : List ℕ) (a b : Recorded) (x y : List (List ℕ)) → plan.order ≡ Some list
    → (r : IsRecordedOf image plan a x) → RecordedRun image plan list r.guest a x → IsRecordedOf image plan b y → (a ≡ b) × (x ≡ y)
recordings_by_list_equal_of_run image plan list a b x y is r h other = run_recording_unique r.guest plan.budget plan.profile h.run a b x y h.of
    (list_recordings_of_run image r.guest plan list h.turns h.run b y r.is is h.spelled h.planned other)

pub one_recording_by_list : OneRecordingByAList
one_recording_by_list image plan list a b x y is r other = recordings_by_list_equal_of_run image plan list a b x y is r
    (recording_by_list_has_run image plan list r.guest a x r.answers is
    (subst (λ (o : Option (List ℕ)). IsRecordedBy o r.guest plan.budget plan.profile a x r.answers) is r.recorded) r.answered) other
