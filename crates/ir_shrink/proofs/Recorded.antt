-- Recordings of the run by turns, in which tries may be refused.
use Rattle.std.proofs.Common.{◌≡◌, ◌<◌, ℕ, true, false, Bool, List, [], ◌++◌, length, get_or, Some, refl, sym, ap, ◌∙◌, subst}
use Rattle.std.specs.Prelude.{replicate, Option, None, Result, Ok, Err, IfOk}
use Rattle.std.proofs.lemmas.List.{get_or-replicate}
use Rattle.std.proofs.lemmas.Option.{get_or_from_slice_get}
use Rattle.ir_fit.specs.Fit.{IsRunOf}
use Rattle.ir_flat.specs.Flat.{Flat, start_flat, tables, machine}
use Rattle.ir_hunt.specs.Rests.{RestsInTrace}
use Rattle.ir_hunt.specs.Stale.{FailsStale, FulfilsStale}
use Rattle.ir_hunt.proofs.CallerLemmas.{run_has_stale}
use Rattle.ir_image.specs.Guest.{Guest}
use Rattle.ir_order.specs.OneRun.{AreSameRuns}
use Rattle.ir_order.specs.Recording.{IsPlannedInTurns, IsOfRun}
use Rattle.ir_order.proofs.CallerLemmas.{one_run_by_turns}
use Rattle.ir_record.specs.Recordings.{IsRecordingByTurns}
use Rattle.ir_record.specs.Refusing.{Turn}
use Rattle.ir_record.specs.Worlds.{AnsweredCall, answers_in}
use Rattle.ir_record.proofs.CallerLemmas.{is_run_if_in_turns}
use Rattle.ir_record_command.specs.Plan.{Plan}
use Rattle.ir_runs.specs.Run.{Step, IsWhole, events, log}
use Rattle.ir_shrink.specs.Stale.{HasStaleInTurns, IsTraceInTurns, IsWantedInTurns}
use Rattle.ir_thread.specs.declared.profile.Profile.{Profile}
use Rattle.ir_trace.specs.Recorded.{Recorded, trace_of}
use Rattle.ir_world.specs.Sources.{origin_of, IsAnsweredFrom}

-- what was recorded of a run is of each run that is the same
pub same_run_is_of_recording : (guest : Guest) (plan : Plan) (turns : List Turn) (run other : List Step) (trace : Recorded) (outputs : List (List ℕ))
    → IsPlannedInTurns guest plan turns run
    → AreSameRuns (machine (start_flat guest plan.budget plan.profile)) (tables (start_flat guest plan.budget plan.profile)) run other
    → IsOfRun guest plan.budget plan.profile other trace outputs → IsOfRun guest plan.budget plan.profile run trace outputs
same_run_is_of_recording guest plan turns run other trace outputs x same h = record {
  trace_of = record {
    objects = h.trace_of.objects;
    limit = h.trace_of.limit;
    profile_is = h.trace_of.profile_is;
    threads = h.trace_of.threads;
    whole = record {
      runs = is_run_if_in_turns (machine f) (tables f) _ run x.by_turns.in_turns;
      done = x.by_turns.done;
      steps = λ t l. ap length (same.trails t) ∙ h.trace_of.whole.steps t l;
      logs = λ t l. ap events (same.trails t) ∙ h.trace_of.whole.logs t l;
      ends = λ t l. ap (λ z. (machine f).ended (z.now t)) same.ends ∙ h.trace_of.whole.ends t l;
    };
  };
  printed = record {
    threads = h.printed.threads;
    each = λ t l. h.printed.each t l ∙ ap (λ z. Some (z.now t).output) (sym same.ends);
  };
}
  where
    f : Flat
    f = start_flat guest plan.budget plan.profile

-- what is recorded in turns, by worlds that had answered nothing, is of each run that the guest makes by the turns with the same answers
recorded_turns_are_of_run : (guest : Guest) (plan : Plan) (turns : List Turn) (run : List Step) (trace : Recorded) (outputs : List (List ℕ))
    (answers : List (List AnsweredCall)) → IsPlannedInTurns guest plan turns run
    → IsRecordingByTurns guest plan.budget plan.profile turns (replicate (length guest.entries) []) trace outputs answers
    → ((t : ℕ) → t < length guest.entries → IsAnsweredFrom (origin_of true plan.random plan.input t) (get_or answers t []))
    → IsOfRun guest plan.budget plan.profile run trace outputs
recorded_turns_are_of_run guest plan turns run trace outputs answers x r answered =
    same_run_is_of_recording guest plan turns run r.0 trace outputs x same (record { trace_of = r.2.emitted; printed = r.2.printed })
  where
    f : Flat
    f = start_flat guest plan.budget plan.profile

    logged : (t : ℕ) → t < length guest.entries → get_or answers t [] ≡ answers_in (log (machine f) (tables f) r.0 t)
    logged t l = get_or_from_slice_get answers t _ [] (r.2.answered.each t l)
        ∙ ap (λ (z : List AnsweredCall). z ++ answers_in (log (machine f) (tables f) r.0 t)) (get_or-replicate (length guest.entries) t [] [] l)

    planned : IsPlannedInTurns guest plan turns r.0
    planned = record {
      by_turns = r.1;
      answered = λ t l. subst (IsAnsweredFrom (origin_of true plan.random plan.input t)) (logged t l) (answered t l);
    }

    same : AreSameRuns (machine f) (tables f) run r.0
    same = one_run_by_turns guest plan.budget plan.profile turns (origin_of true plan.random plan.input) run r.0 (λ t l. refl) x planned

-- and has a run
pub recorded_turns_have_run : (guest : Guest) (budget : ℕ) (profile : Profile) (turns : List Turn) (before : List (List AnsweredCall)) (trace : Recorded)
    (outputs : List (List ℕ)) (answers : List (List AnsweredCall)) → IsRecordingByTurns guest budget profile turns before trace outputs answers
    → (run : List Step) × IsRunOf guest trace run
recorded_turns_have_run guest budget profile turns before trace outputs answers r = (
  r.0,
  (
    record { threads = r.2.emitted.threads; objects = r.2.emitted.objects },
    subst (λ (p : Profile). IsWhole (machine (start_flat guest trace.budget p)) (tables (start_flat guest trace.budget p)) (length guest.entries) (trace_of trace) r.0)
        (sym r.2.emitted.profile_is)
        (subst (λ (b : ℕ). IsWhole (machine (start_flat guest b profile)) (tables (start_flat guest b profile)) (length guest.entries) (trace_of trace) r.0)
        (sym r.2.emitted.limit) r.2.emitted.whole),
  ),
)

-- with fresh worlds
pub fresh_trace_in_turns : (guest : Guest) (plan : Plan) (turns : List Turn) (entries : List ℕ) (before : List (List AnsweredCall)) (trace : Recorded) (outputs : List (List ℕ))
    (answers : List (List AnsweredCall)) → entries ≡ guest.entries → before ≡ replicate (length entries) []
    → IsRecordingByTurns guest plan.budget plan.profile turns before trace outputs answers
    → ((t : ℕ) → t < length entries → IsAnsweredFrom (origin_of true plan.random plan.input t) (get_or answers t []))
    → IsTraceInTurns guest plan turns trace
fresh_trace_in_turns guest plan turns entries before trace outputs answers same fresh r answered run planned =
    let long : length entries ≡ length guest.entries = ap (λ (z : List ℕ). length z) same in (
      outputs,
      recorded_turns_are_of_run guest plan turns run trace outputs answers planned
          (subst (λ (z : List (List AnsweredCall)). IsRecordingByTurns guest plan.budget plan.profile turns z trace outputs answers)
          (fresh ∙ ap (λ (n : ℕ). replicate n []) long) r) (λ t l. answered t (subst (λ n. t < n) (sym long) l)),
    )

-- whether a stale write of the trace rests is whether one of each run by the turns does
pub ok_stale_in_turns : {E : Type 0} (guest : Guest) (plan : Plan) (turns : List Turn) (trace : Recorded) (r : Result Bool E)
    → IsTraceInTurns guest plan turns trace → IfOk r (RestsInTrace guest trace) → IfOk r (HasStaleInTurns guest plan turns)
ok_stale_in_turns guest plan turns trace (Ok has) by h = λ run planned. run_has_stale (by run planned) h
ok_stale_in_turns guest plan turns trace (Err e) by h = tt

-- a run by turns whose runs have what is wanted of them has it
pub wanted_turns_fulfil : (guest : Guest) (plan : Plan) (turns : List Turn) (wanted : Option Bool) (run : List Step)
    → IsWantedInTurns guest plan turns wanted true → IsPlannedInTurns guest plan turns run → FulfilsStale guest plan wanted run
wanted_turns_fulfil guest plan turns None run h planned = tt
wanted_turns_fulfil guest plan turns (Some has) run h planned = h run planned

-- and if none of its runs has it, the run hasn't
pub unwanted_turns_fail : (guest : Guest) (plan : Plan) (turns : List Turn) (wanted : Option Bool) (run : List Step)
    → IsWantedInTurns guest plan turns wanted false → IsPlannedInTurns guest plan turns run → FailsStale guest plan wanted run
unwanted_turns_fail guest plan turns None run h planned = absurd cc
unwanted_turns_fail guest plan turns (Some has) run h planned = h run planned
