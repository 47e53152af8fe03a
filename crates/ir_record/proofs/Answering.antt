-- Calls of the environment that are recorded.
use Rattle.std.proofs.Common.{◌≡◌, ℕ, ◌<◌, true, List, [], ◌∷◌, ◌++◌, length, set, sym, ap, ◌∙◌, subst, arith, get_or-set_same, get_or-set_other}
use Rattle.ir_thread.specs.State.{ask_of, most_events, shared_ask, is_result}
use Rattle.ir_thread.specs.Permitted.{Permits}
use Rattle.ir_runs.specs.Machine.{act_of, target, emitted, Admits, Answer}
use Rattle.ir_thread.specs.declared.ask.Ask.TheVariants.{Env}
use Rattle.ir_runs.specs.declared.env_kind.EnvKind.{EnvKind}
use Rattle.ir_thread.proofs.CallerLemmas.{ask_of_permitted}
use Rattle.ir_flat.specs.Flat.{Flat, thread_of, tables, machine, IsFlat}
use Rattle.ir_runs.specs.Run.{Can, after}
use Rattle.ir_flat.proofs.CallerLemmas.{events_added_by}
use Rattle.ir_log.specs.Logged.{Logged}
use Rattle.ir_log.specs.declared.event.Event.TheVariants as event
use Rattle.ir_record.specs.Progress.{TookIf, HasLogs, log_at, labels_at}
use Rattle.ir_record.specs.Worlds.{answers_at, AnsweredCall}
use Rattle.ir_record.proofs.Steps.{turn_taken_by_step, no_try_enters_if_free}
use Rattle.ir_record.proofs.Running.{flat_holds_few}
use Rattle.ir_record.proofs.Logs.{has_logs_event_pushed, pushed_label_is_last, labels_other_log_same}

-- there is the step
pub call_can_step : (f : Flat) (t value : ℕ) (kind : EnvKind) → ask_of f.code (thread_of f t) ≡ Env kind → is_result kind value ≡ true
    → Can (machine f) (tables f) (t, value)
call_can_step f t value kind is fits = subst (λ q. Admits (machine f) (act_of (shared_ask q) value)
    ((tables f).objects (target (act_of (shared_ask q) value)))) (sym is) fits

pub call_events_below_limit : (f : Flat) (t : ℕ) (kind : EnvKind) → ask_of f.code (thread_of f t) ≡ Env kind → (thread_of f t).events < most_events
call_events_below_limit f t kind is = (subst (Permits (thread_of f t)) is (ask_of_permitted f.code (thread_of f t))).1

-- an answer was logged, and it is its world's
pub record AnswerLogged (f g : Flat) (logs more : List Logged) (t value : ℕ) (kind : EnvKind) : Type 0 where
  pub has_logs : HasLogs f logs
  pub flat : IsFlat f
  pub below : t < length f.threads
  pub asked : ask_of f.code (thread_of f t) ≡ Env kind
  pub fits : is_result kind value ≡ true
  pub taken : tables g ≡ after (machine f) (tables f) (t, value)
  pub code : g.code ≡ f.code
  pub threads : length g.threads ≡ length f.threads
  pub objects : length g.objects ≡ length f.objects
  pub new : Logged
  pub pushed : new ≡ record (log_at logs t) { events = (log_at logs t).events ++ event.Answer kind value ∷ [] }
  pub logged : more ≡ set logs t new

pub has_logs_after_answer : (f g : Flat) (logs more : List Logged) (t value : ℕ) (kind : EnvKind) → AnswerLogged f g logs more t value kind
    → HasLogs g more
has_logs_after_answer f g logs more t value kind a =
    subst (HasLogs g) (sym a.logged) (has_logs_event_pushed f g logs t value (event.Answer kind value) a.new a.has_logs a.below a.taken a.threads a.objects
    (ap events_added_by a.asked) a.fits a.pushed)

pub turn_taken_by_answer : (f g : Flat) (logs more : List Logged) (t value : ℕ) (kind : EnvKind) → AnswerLogged f g logs more t value kind
    → (answers given : List (List AnsweredCall)) → t < length answers → given ≡ set answers t (answers_at answers t ++ (kind, value) ∷ [])
    → TookIf true (t ∷ []) (record { flat = f; logs = logs; answers = answers }) (record { flat = g; logs = more; answers = given })
turn_taken_by_answer f g logs more t value kind a answers given l e =
    turn_taken_by_step t value (Answer kind value) (record { flat = f; logs = logs; answers = answers })
    (record { flat = g; logs = more; answers = given }) (record {
      below = a.below;
      few = flat_holds_few f a.flat;
      can = call_can_step f t value kind a.asked a.fits;
      taken = a.taken;
      code = a.code;
      threads = a.threads;
      objects = a.objects;
      emits = ap (λ q. emitted (act_of (shared_ask q) value) ((tables f).objects (target (act_of (shared_ask q) value)))) a.asked;
      own_log = subst (λ z. labels_at z t ≡ labels_at logs t ++ Answer kind value ∷ []) (sym a.logged)
          (pushed_label_is_last logs t (event.Answer kind value) a.new (omega (arith, a.below, a.has_logs.one_each)) a.pushed);
      own_answers = ap (λ z. answers_at z t) e ∙ get_or-set_same answers t (answers_at answers t ++ (kind, value) ∷ []) [] l;
      other_logs = λ u ne. subst (λ z. labels_at z u ≡ labels_at logs u) (sym a.logged) (labels_other_log_same logs t u a.new ne);
      other_answers = λ u ne. ap (λ z. answers_at z u) e ∙ get_or-set_other answers t u (answers_at answers t ++ (kind, value) ∷ []) [] ne;
    }) (no_try_enters_if_free f t value (Env kind) a.asked (λ o e. cc e))
