-- Recordings of a run that is asked for its stale writes.
use Rattle.std.proofs.Common.{◌≡◌, ◌<◌, ℕ, true, Bool, List, [], length, get_or, sym, ap, ◌∙◌, subst}
use Rattle.std.specs.Prelude.{replicate, Result, Ok, Err, IfOk}
use Rattle.ir_image.specs.Guest.{Guest}
use Rattle.ir_flat.specs.Flat.{start_flat, tables, machine}
use Rattle.ir_runs.specs.Run.{Step, IsWhole}
use Rattle.ir_trace.specs.Recorded.{Recorded, trace_of}
use Rattle.ir_fit.specs.Fit.{IsRunOf}
use Rattle.ir_thread.specs.declared.profile.Profile.{Profile}
use Rattle.ir_record.specs.Recording.{IsTraceOf}
use Rattle.ir_record.specs.Recordings.{IsRecordingByTurns}
use Rattle.ir_record.specs.Refusing.{plain_turns}
use Rattle.ir_record.specs.Worlds.{AnsweredCall}
use Rattle.ir_record_command.specs.Plan.{Plan}
use Rattle.ir_world.specs.Sources.{origin_of, IsAnsweredFrom}
use Rattle.ir_order.proofs.CallerLemmas.{recording_is_of_run}
use Rattle.ir_order.specs.Recording.{IsOfRun}
use Rattle.ir_hunt.specs.Rests.{RestsInTrace}
use Rattle.ir_hunt.specs.Stale.{HasStale, HasStaleBy, IsTraceBy}

-- the trace of a run has that run
trace_of_run_has_run : (guest : Guest) (budget : ℕ) (profile : Profile) (run : List Step) (trace : Recorded) → IsTraceOf guest budget profile run trace
    → IsRunOf guest trace run
trace_of_run_has_run guest budget profile run trace h = (
  record { threads = h.threads; objects = h.objects },
  subst (λ (p : Profile). IsWhole (machine (start_flat guest trace.budget p)) (tables (start_flat guest trace.budget p)) (length guest.entries) (trace_of trace) run)
      (sym h.profile_is)
      (subst (λ (b : ℕ). IsWhole (machine (start_flat guest b profile)) (tables (start_flat guest b profile)) (length guest.entries) (trace_of trace) run)
      (sym h.limit) h.whole),
)

-- and so does what is recorded in turns
pub recording_has_run : (guest : Guest) (budget : ℕ) (profile : Profile) (order : List ℕ) (before : List (List AnsweredCall)) (trace : Recorded)
    (outputs : List (List ℕ)) (answers : List (List AnsweredCall)) → IsRecordingByTurns guest budget profile (plain_turns order) before trace outputs answers
    → (run : List Step) × IsRunOf guest trace run
recording_has_run guest budget profile order before trace outputs answers r = (r.0, trace_of_run_has_run guest budget profile r.0 trace r.2.emitted)

-- what is recorded in turns, with fresh worlds, is the trace of each run by their order
pub fresh_trace_by_order : (guest : Guest) (plan : Plan) (entries order : List ℕ) (before : List (List AnsweredCall)) (trace : Recorded) (outputs : List (List ℕ))
    (answers : List (List AnsweredCall)) → entries ≡ guest.entries → before ≡ replicate (length entries) []
    → IsRecordingByTurns guest plan.budget plan.profile (plain_turns order) before trace outputs answers
    → ((t : ℕ) → t < length entries → IsAnsweredFrom (origin_of true plan.random plan.input t) (get_or answers t []))
    → IsTraceBy guest plan order trace
fresh_trace_by_order guest plan entries order before trace outputs answers same fresh r answered run planned =
    let long : length entries ≡ length guest.entries = ap (λ (z : List ℕ). length z) same in (
      outputs,
      recording_is_of_run guest plan order run trace outputs answers planned
          (subst (λ (z : List (List AnsweredCall)). IsRecordingByTurns guest plan.budget plan.profile (plain_turns order) z trace outputs answers)
          (fresh ∙ ap (λ (n : ℕ). replicate n []) long) r) (λ t l. answered t (subst (λ n. t < n) (sym long) l)),
    )

-- whether a stale write of the trace rests is whether one of its run does
pub run_has_stale : {guest : Guest} {plan : Plan} {run : List Step} {trace : Recorded} {has : Bool}
    → (outputs : List (List ℕ)) × IsOfRun guest plan.budget plan.profile run trace outputs → RestsInTrace guest trace has → HasStale guest plan run has
run_has_stale {trace = trace} of h = record {
  trace = trace;
  outputs = of.0;
  of_run = of.1;
  fitted = h.0;
  of_guest = h.1;
  of_trace = h.2;
  fits = h.3;
  rests = h.4;
}

-- whether one does of each run by the order
pub ok_stale_by_order : {E : Type 0} (guest : Guest) (plan : Plan) (order : List ℕ) (trace : Recorded) (r : Result Bool E)
    → IsTraceBy guest plan order trace → IfOk r (RestsInTrace guest trace) → IfOk r (HasStaleBy guest plan order)
ok_stale_by_order guest plan order trace (Ok has) by h = λ run planned. run_has_stale (by run planned) h
ok_stale_by_order guest plan order trace (Err e) by h = tt
