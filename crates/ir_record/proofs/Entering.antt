-- Entries, and steps that nothing is logged of.
use Rattle.std.proofs.Common.{◌≡◌, ◌≢◌, ℕ, ◌<◌, true, false, Bool, List, [], ◌∷◌, ◌++◌, length, set, Result, Ok, Err, OnOk, OnErr, is_ok, is_err, refl, sym, ap, ◌∙◌, subst, arith, append-nil}
use Rattle.ir_thread.specs.State.{ask_of, most_events, shared_ask}
use Rattle.ir_thread.specs.Permitted.{Permits}
use Rattle.ir_runs.specs.Machine as machine
use Rattle.ir_runs.specs.Machine.{act_of, Object, target, emitted, Admits, Label, logged}
use Rattle.ir_runs.specs.declared.access.Access.{Access}
use Rattle.ir_runs.specs.declared.access.Access.TheVariants.{Reading, Writing}
use Rattle.ir_thread.specs.declared.ask.Ask.{Ask}
use Rattle.ir_thread.specs.declared.ask.Ask.TheVariants.{Private, Env, Enter, Try, Leave, Get, Put, Print, End, Done}
use Rattle.ir_thread.proofs.CallerLemmas.{ask_of_permitted}
use Rattle.ir_flat.specs.Flat.{Flat, thread_of, tables, machine, IsFlat}
use Rattle.ir_runs.specs.Run.{Can, after, label, EntersIfFree, HasNone}
use Rattle.ir_flat.proofs.CallerLemmas.{events_added_by}
use Rattle.ir_log.specs.Logged.{Logged}
use Rattle.ir_log.specs.Logging.{label_of}
use Rattle.ir_log.specs.declared.event.Event.{Event}
use Rattle.ir_trace.specs.Bounds.{IsEvent}
use Rattle.ir_record.specs.Progress.{TookIf, HasLogs, IsQuiet, log_at, labels_at}
use Rattle.ir_record.specs.Worlds.{answers_at, AnsweredCall, answers_in}
use Rattle.ir_record.proofs.Steps.{OneStep, turn_taken_by_step, took_none_if_same, no_try_enters_if_free}
use Rattle.ir_record.proofs.Logs.{has_logs_unlogged_step, has_logs_event_pushed, pushed_label_is_last, labels_other_log_same}
use Rattle.ir_record.proofs.Running.{flat_holds_few}

-- whether a step can be taken is no matter of its result, unless it calls the environment
abbrev pub IgnoresResult : Ask → Type 0
IgnoresResult q = (f : Flat) (r : ℕ) → Admits (machine f) (act_of (shared_ask q) r) ((tables f).objects (target (act_of (shared_ask q) r)))
    → Admits (machine f) (act_of (shared_ask q) 0) ((tables f).objects (target (act_of (shared_ask q) 0)))

entry_ignores_result : (o : ℕ) (a : Access) → IgnoresResult (Enter o a)
entry_ignores_result o Reading f r h = h
entry_ignores_result o Writing f r h = h

quiet_ignores_result : (q : Ask) → IsQuiet q → IgnoresResult q
quiet_ignores_result Private k f r h = tt
quiet_ignores_result (Env kind) k f r h = absurd k
quiet_ignores_result (Enter o a) k f r h = absurd k
quiet_ignores_result (Try o) k f r h = absurd k
quiet_ignores_result (Leave o a) k f r h = tt
quiet_ignores_result (Get o i) k f r h = tt
quiet_ignores_result (Put o i w) k f r h = tt
quiet_ignores_result Print k f r h = tt
quiet_ignores_result (End e) k f r h = tt
quiet_ignores_result Done k f r h = absurd h

no_step_if_zero_cannot : (f : Flat) (t : ℕ) → IgnoresResult (ask_of f.code (thread_of f t)) → (Can (machine f) (tables f) (t, 0) → ⊥)
    → HasNone (machine f) (tables f) t
no_step_if_zero_cannot f t ignores never r can = never (ignores f r can)

pub no_step_if_entry_cannot : (f : Flat) (t o : ℕ) (a : Access) → ask_of f.code (thread_of f t) ≡ Enter o a → (Can (machine f) (tables f) (t, 0) → ⊥)
    → HasNone (machine f) (tables f) t
no_step_if_entry_cannot f t o a is never = no_step_if_zero_cannot f t (subst IgnoresResult (sym is) (entry_ignores_result o a)) never

pub no_step_if_quiet_cannot : (f : Flat) (t : ℕ) → IsQuiet (ask_of f.code (thread_of f t)) → (Can (machine f) (tables f) (t, 0) → ⊥)
    → HasNone (machine f) (tables f) t
no_step_if_quiet_cannot f t quiet never = no_step_if_zero_cannot f t (quiet_ignores_result (ask_of f.code (thread_of f t)) quiet) never

-- there is room to log the entry
pub entry_events_below_limit : (f : Flat) (t o : ℕ) (a : Access) → ask_of f.code (thread_of f t) ≡ Enter o a → (thread_of f t).events < most_events
entry_events_below_limit f t o a is = (subst (Permits (thread_of f t)) is (ask_of_permitted f.code (thread_of f t))).1

-- what is known where the step was taken, and where it was not
pub on_ok_fact_holds : {X E : Type 0} (result : Result X E) (b : Bool) (P : Type 0) → b ≡ is_err result → b ≡ false → OnOk result P → P
on_ok_fact_holds (Ok x) b P e h p = p
on_ok_fact_holds (Err x) b P e h p = absurd (cc (e, h))

pub on_err_fact_holds : {X E : Type 0} (result : Result X E) (b : Bool) (P : Type 0) → b ≡ is_err result → b ≡ true → OnErr result P → P
on_err_fact_holds (Ok x) b P e h p = absurd (cc (e, h))
on_err_fact_holds (Err x) b P e h p = p

pub on_err_fact_by_is_ok : {X E : Type 0} (result : Result X E) (b : Bool) (P : Type 0) → b ≡ is_ok result → b ≡ false → OnErr result P → P
on_err_fact_by_is_ok (Ok x) b P e h p = absurd (cc (e, h))
on_err_fact_by_is_ok (Err x) b P e h p = p

-- a step was taken that emits k, and this event was logged of it, which is no answer
pub record OneEventLogged (f g : Flat) (logs more : List Logged) (t r : ℕ) (k : Label) (e : Event) : Type 0 where
  pub has_logs : HasLogs f logs
  pub flat : IsFlat f
  pub below : t < length f.threads
  pub one : events_added_by (ask_of f.code (thread_of f t)) ≡ 1
  pub emits : label (machine f) (tables f) (t, r) ≡ k
  pub event : label_of e ≡ k
  pub once : logged k [] ≡ k ∷ []
  pub unanswered : answers_in (logged k []) ≡ []
  pub fits : IsEvent (thread_of f t).profile (length f.objects) e
  pub can : Can (machine f) (tables f) (t, r)
  pub taken : tables g ≡ after (machine f) (tables f) (t, r)
  pub code : g.code ≡ f.code
  pub threads : length g.threads ≡ length f.threads
  pub objects : length g.objects ≡ length f.objects
  pub new : Logged
  pub pushed : new ≡ record (log_at logs t) { events = (log_at logs t).events ++ e ∷ [] }
  pub logs_are : more ≡ set logs t new

pub has_logs_logged_event : (f g : Flat) (logs more : List Logged) (t r : ℕ) (k : Label) (e : Event) → OneEventLogged f g logs more t r k e → HasLogs g more
has_logs_logged_event f g logs more t r k e x =
    subst (HasLogs g) (sym x.logs_are) (has_logs_event_pushed f g logs t r e x.new x.has_logs x.below x.taken x.threads x.objects x.one x.fits x.pushed)

-- the step that it is of
pub one_step_by_event : (f g : Flat) (logs more : List Logged) (t r : ℕ) (k : Label) (e : Event) → OneEventLogged f g logs more t r k e
    → (answers : List (List AnsweredCall))
    → OneStep t r k (record { flat = f; logs = logs; answers = answers }) (record { flat = g; logs = more; answers = answers })
one_step_by_event f g logs more t r k e x answers = record {
  below = x.below;
  few = flat_holds_few f x.flat;
  can = x.can;
  taken = x.taken;
  code = x.code;
  threads = x.threads;
  objects = x.objects;
  emits = x.emits;
  own_log = subst (λ z. labels_at z t ≡ labels_at logs t ++ logged k []) (sym x.logs_are)
      (pushed_label_is_last logs t e x.new (omega (arith, x.below, x.has_logs.one_each)) x.pushed
      ∙ ap (λ z. labels_at logs t ++ z) (ap (λ z. z ∷ []) x.event ∙ sym x.once));
  own_answers = sym (append-nil (answers_at answers t)) ∙ ap (λ z. answers_at answers t ++ z) (sym x.unanswered);
  other_logs = λ u ne. subst (λ z. labels_at z u ≡ labels_at logs u) (sym x.logs_are) (labels_other_log_same logs t u x.new ne);
  other_answers = λ u ne. refl;
}

pub turn_by_logged_event : (f g : Flat) (logs more : List Logged) (t r : ℕ) (k : Label) (e : Event) → OneEventLogged f g logs more t r k e
    → EntersIfFree (machine f) (tables f) (t, r) → (answers : List (List AnsweredCall))
    → TookIf true (t ∷ []) (record { flat = f; logs = logs; answers = answers }) (record { flat = g; logs = more; answers = answers })
turn_by_logged_event f g logs more t r k e x enters answers =
    turn_taken_by_step t r k (record { flat = f; logs = logs; answers = answers }) (record { flat = g; logs = more; answers = answers })
    (one_step_by_event f g logs more t r k e x answers) enters

-- what a step emits, by what is asked
pub step_label_is_emitted : (f : Flat) (t r : ℕ) (q : Ask) → ask_of f.code (thread_of f t) ≡ q
    → label (machine f) (tables f) (t, r) ≡ emitted (act_of (shared_ask q) r) ((tables f).objects (target (act_of (shared_ask q) r)))
step_label_is_emitted f t r q is = ap (λ z. emitted (act_of (shared_ask z) r) ((tables f).objects (target (act_of (shared_ask z) r)))) is

-- what an entry emits is logged, and is no answer
pub entry_logs_itself : (o : ℕ) (a : Access) (v : ℕ) (b : Object) → logged (emitted (machine.Entered o a v) b) [] ≡ emitted (machine.Entered o a v) b
    ∷ []
entry_logs_itself o Reading v b = refl
entry_logs_itself o Writing v b = refl

pub entry_logs_no_answer : (o : ℕ) (a : Access) (v : ℕ) (b : Object) → answers_in (logged (emitted (machine.Entered o a v) b) []) ≡ []
entry_logs_no_answer o Reading v b = refl
entry_logs_no_answer o Writing v b = refl

-- a step was taken that nothing is logged of
pub record QuietStep (f g : Flat) (logs : List Logged) (t : ℕ) : Type 0 where
  pub has_logs : HasLogs f logs
  pub flat : IsFlat f
  pub below : t < length f.threads
  pub quiet : IsQuiet (ask_of f.code (thread_of f t))
  pub can : Can (machine f) (tables f) (t, 0)
  pub taken : tables g ≡ after (machine f) (tables f) (t, 0)
  pub code : g.code ≡ f.code
  pub threads : length g.threads ≡ length f.threads
  pub objects : length g.objects ≡ length f.objects

quiet_adds_no_events : (q : Ask) → IsQuiet q → events_added_by q ≡ 0
quiet_adds_no_events Private k = refl
quiet_adds_no_events (Env kind) k = absurd k
quiet_adds_no_events (Enter o a) k = absurd k
quiet_adds_no_events (Try o) k = absurd k
quiet_adds_no_events (Leave o a) k = refl
quiet_adds_no_events (Get o i) k = refl
quiet_adds_no_events (Put o i w) k = refl
quiet_adds_no_events Print k = refl
quiet_adds_no_events (End e) k = refl
quiet_adds_no_events Done k = refl

quiet_step_logs_nothing : (q : Ask) (b : Object) → IsQuiet q → logged (emitted (act_of (shared_ask q) 0) b) [] ≡ []
quiet_step_logs_nothing Private b k = refl
quiet_step_logs_nothing (Env kind) b k = absurd k
quiet_step_logs_nothing (Enter o a) b k = absurd k
quiet_step_logs_nothing (Try o) b k = absurd k
quiet_step_logs_nothing (Leave o a) b k = refl
quiet_step_logs_nothing (Get o i) b k = refl
quiet_step_logs_nothing (Put o i w) b k = refl
quiet_step_logs_nothing Print b k = refl
quiet_step_logs_nothing (End e) b k = refl
quiet_step_logs_nothing Done b k = refl

quiet_ask_is_no_try : (q : Ask) → IsQuiet q → (o : ℕ) → shared_ask q ≢ machine.Try o
quiet_ask_is_no_try Private k o e = cc e
quiet_ask_is_no_try (Env kind) k o e = k
quiet_ask_is_no_try (Enter i a) k o e = k
quiet_ask_is_no_try (Try i) k o e = k
quiet_ask_is_no_try (Leave i a) k o e = cc e
quiet_ask_is_no_try (Get i j) k o e = cc e
quiet_ask_is_no_try (Put i j w) k o e = cc e
quiet_ask_is_no_try Print k o e = cc e
quiet_ask_is_no_try (End x) k o e = cc e
quiet_ask_is_no_try Done k o e = cc e

pub has_logs_quiet_step : (f g : Flat) (logs : List Logged) (t : ℕ) → QuietStep f g logs t → HasLogs g logs
has_logs_quiet_step f g logs t x = has_logs_unlogged_step f g logs t 0 x.has_logs x.taken x.threads x.objects (quiet_adds_no_events (ask_of f.code (thread_of f t)) x.quiet)

pub turn_by_quiet_step : (f g : Flat) (logs : List Logged) (t : ℕ) → QuietStep f g logs t → (answers : List (List AnsweredCall))
    → TookIf true (t ∷ []) (record { flat = f; logs = logs; answers = answers }) (record { flat = g; logs = logs; answers = answers })
turn_by_quiet_step f g logs t x answers =
    let k : Label = label (machine f) (tables f) (t, 0) in
    let none : logged k [] ≡ [] = quiet_step_logs_nothing (ask_of f.code (thread_of f t)) _ x.quiet in
    turn_taken_by_step t 0 k (record { flat = f; logs = logs; answers = answers }) (record { flat = g; logs = logs; answers = answers }) (record {
      below = x.below;
      few = flat_holds_few f x.flat;
      can = x.can;
      taken = x.taken;
      code = x.code;
      threads = x.threads;
      objects = x.objects;
      emits = refl;
      own_log = sym (append-nil (labels_at logs t)) ∙ ap (λ z. labels_at logs t ++ z) (sym none);
      own_answers = sym (append-nil (answers_at answers t)) ∙ ap (λ z. answers_at answers t ++ answers_in z) (sym none);
      other_logs = λ u ne. refl;
      other_answers = λ u ne. refl;
    }) (no_try_enters_if_free f t 0 (ask_of f.code (thread_of f t)) refl (quiet_ask_is_no_try (ask_of f.code (thread_of f t)) x.quiet))

-- where the thread waits, or is done, nothing changes
pub turn_took_no_step : (f g : Flat) (logs : List Logged) (t : ℕ) → HasNone (machine f) (tables f) t → g ≡ f → (answers : List (List AnsweredCall))
    → TookIf false (t ∷ []) (record { flat = f; logs = logs; answers = answers }) (record { flat = g; logs = logs; answers = answers })
turn_took_no_step f g logs t none same answers = took_none_if_same t (record { flat = f; logs = logs; answers = answers })
    (record { flat = g; logs = logs; answers = answers }) none (ap (λ z. record { flat = z; logs = logs; answers = answers }) same)

pub has_logs_of_equal_flat : (f g : Flat) (logs : List Logged) → HasLogs f logs → g ≡ f → HasLogs g logs
has_logs_of_equal_flat f g logs has_logs same = subst (λ z. HasLogs z logs) (sym same) has_logs

-- a step that nothing is logged of, if there is one
pub record QuietTurn (f g : Flat) (logs : List Logged) (t : ℕ) (moved : Bool) : Type 0 where
  pub took : (answers : List (List AnsweredCall)) → TookIf moved (t ∷ []) (record { flat = f; logs = logs; answers = answers })
      (record { flat = g; logs = logs; answers = answers })
  pub has_logs : HasLogs g logs

pub quiet_turn_by_result : {X E : Type 0} (result : Result X E) (f g : Flat) (logs : List Logged) (t : ℕ) (moved : Bool) → moved ≡ is_ok result
    → HasLogs f logs → IsFlat f → t < length f.threads → IsQuiet (ask_of f.code (thread_of f t))
    → OnOk result (Can (machine f) (tables f) (t, 0)) → OnOk result (tables g ≡ after (machine f) (tables f) (t, 0)) → g.code ≡ f.code
    → length g.threads ≡ length f.threads → length g.objects ≡ length f.objects
    → OnErr result (Can (machine f) (tables f) (t, 0) → ⊥) → OnErr result (g ≡ f) → QuietTurn f g logs t moved
quiet_turn_by_result (Ok x) f g logs t moved e has_logs flat l quiet can taken code threads objects never same =
    let going : QuietStep f g logs t = record {
      has_logs = has_logs;
      flat = flat;
      below = l;
      quiet = quiet;
      can = can;
      taken = taken;
      code =
          code;
      threads = threads;
      objects = objects;
    } in
    subst (QuietTurn f g logs t) (sym e) (record { took = turn_by_quiet_step f g logs t going; has_logs = has_logs_quiet_step f g logs t going })
quiet_turn_by_result (Err x) f g logs t moved e has_logs flat l quiet can taken code threads objects never same =
    subst (QuietTurn f g logs t) (sym e) (record {
      took = turn_took_no_step f g logs t (no_step_if_quiet_cannot f t quiet never) same;
      has_logs =
          has_logs_of_equal_flat f g logs has_logs same;
    })
