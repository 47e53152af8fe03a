-- What is recorded of a run, read off its threads, their logs and their worlds' answers at its end.
use Rattle.ir_thread.specs.declared.profile.Profile.{Profile}
use Rattle.std.proofs.Common.{◌≡◌, ℕ, ◌+◌, ◌<◌, List, ◌++◌, length, map, get_or, Option, Some, sym, ap, ◌∙◌, arith}
use Rattle.std.specs.List.{slice_get}
use Rattle.std.specs.Prelude.{option_map}
use Rattle.ir_image.specs.Guest.{Guest, object_count}
use Rattle.ir_thread.specs.State.{end_number, end_code, thread_machine}
use Rattle.ir_thread.specs.State as thread
use Rattle.ir_thread.specs.declared.end.End as end
use Rattle.ir_flat.specs.Flat.{start_flat, tables}
use Rattle.ir_runs.specs.Run.{Step, IsRun, IsDone, end, log, count}
use Rattle.ir_flat.proofs.CallerLemmas.{tallies_along_run, start_has_no_steps}
use Rattle.ir_log.specs.Logged.{Logged}
use Rattle.ir_log.specs.Logging.{label_of}
use Rattle.ir_trace.specs.Recorded.{Recorded, RecordedThread}
use Rattle.ir_trace.specs.Absent.{absent}
use Rattle.ir_record.specs.Gathered.{IsThreadTrace}
use Rattle.ir_record.specs.Worlds.{answers_at, AnsweredCall, answers_in}
use Rattle.ir_record.specs.Recording.{IsTraceOf, AreOutputs, AreAnswers}

-- the threads at the end of the run, the logs of what they did in it, and their worlds' answers
pub record StandAtEnd (guest : Guest) (budget : ℕ) (profile : Profile) (run : List Step) (before : List (List AnsweredCall)) (now : ℕ → thread.ThreadState)
    (logs : ℕ → Logged) (answers : ℕ → List AnsweredCall) : Type 0 where
  pub runs : IsRun (thread_machine guest.code) (tables (start_flat guest budget profile)) run
  pub threads : (t : ℕ) → t < length guest.entries → now t ≡ (end (thread_machine guest.code) (tables (start_flat guest budget profile)) run).now t
  pub logged : (t : ℕ) → t < length guest.entries
      → map label_of (logs t).events ≡ log (thread_machine guest.code) (tables (start_flat guest budget profile)) run t
  pub answered : (t : ℕ) → t < length guest.entries
      → answers t ≡ answers_at before t ++ answers_in (log (thread_machine guest.code) (tables (start_flat guest budget profile)) run t)

-- the end that is reported of a recorded thread
recorded_end_as_numbers : (r : RecordedThread) (x : Option end.End) → x ≡ Some r.end
    → ◌≡◌ {A = Option (ℕ × ℕ)} (Some (end_number r.end, end_code r.end)) (option_map (λ e. (end_number e, end_code e)) x)
recorded_end_as_numbers r x e = ap (option_map (λ k. (end_number k, end_code k))) (sym e)

module _ {guest : Guest} {budget : ℕ} {profile : Profile} {run : List Step} {before : List (List AnsweredCall)}
    {now : ℕ → thread.ThreadState} {logs : ℕ → Logged} {given : ℕ → List AnsweredCall}
    (s : StandAtEnd guest budget profile run before now logs given) where
  pub emitted_there : IsDone (thread_machine guest.code) (end (thread_machine guest.code) (tables (start_flat guest budget profile)) run)
      → (trace : Recorded)
      → trace.objects ≡ object_count guest → trace.budget ≡ budget → trace.profile ≡ profile → length trace.threads ≡ length guest.entries
      → ((t : ℕ) → t < length guest.entries → IsThreadTrace (now t) (logs t) (get_or trace.threads t absent))
      → IsTraceOf guest budget profile run trace
  emitted_there done trace objects limit same all each = record {
    objects = objects;
    limit = limit;
    profile_is = same;
    threads = all;
    whole = record {
      runs = s.runs;
      done = done;
      steps = λ t l. sym ((each t l).steps ∙ ap (λ x. x.steps) (s.threads t l)
          ∙ (tallies_along_run guest.code (tables (start_flat guest budget profile)) run s.runs t).steps
          ∙ ap (λ k. k + count (thread_machine guest.code) (tables (start_flat guest budget profile)) run t)
          (start_has_no_steps guest budget profile 0 (length guest.entries) t)
          ∙ (let e : 0 + count (thread_machine guest.code) (tables (start_flat guest budget profile)) run t ≡ count (thread_machine guest.code)
          (tables (start_flat guest budget profile)) run t = omega arith in e));
      logs = λ t l. sym (ap (map label_of) (each t l).events ∙ s.logged t l);
      ends = λ t l. sym (recorded_end_as_numbers (get_or trace.threads t absent) (now t).ended (each t l).end
          ∙ ap (thread_machine guest.code).ended (s.threads t l));
    };
  }

  pub printed_there : (outputs : List (List ℕ)) → length outputs ≡ length guest.entries
      → ((t : ℕ) → t < length guest.entries → slice_get outputs t ≡ Some (now t).output) → AreOutputs guest budget profile run outputs
  printed_there outputs all each = record { threads = all; each = λ t l. each t l ∙ ap (λ x. Some x.output) (s.threads t l) }

  pub answered_there : (answers : List (List AnsweredCall)) → length answers ≡ length guest.entries
      → ((t : ℕ) → t < length guest.entries → slice_get answers t ≡ Some (given t)) → AreAnswers guest budget profile run before answers
  answered_there answers all each = record { threads = all; each = λ t l. each t l ∙ ap Some (s.answered t l) }
