-- Tries that are recorded.
use Rattle.std.proofs.Common.{◌≡◌, ℕ, ◌<◌, List, [], ◌∷◌, ◌++◌, length, set, refl, sym, ap, subst}
use Rattle.ir_thread.specs.State.{ask_of, most_events, shared_ask}
use Rattle.ir_thread.specs.Permitted.{Permits}
use Rattle.ir_thread.specs.declared.ask.Ask.TheVariants.{Try}
use Rattle.ir_thread.specs.declared.profile.Profile.{Profile}
use Rattle.ir_thread.proofs.CallerLemmas.{ask_of_permitted}
use Rattle.ir_runs.specs.Machine as machine
use Rattle.ir_runs.specs.Machine.{act_of, target, emitted, Admits, Label, FailedTry}
use Rattle.ir_runs.specs.declared.access.Access.TheVariants.{Writing}
use Rattle.ir_runs.specs.Run.{Can, after}
use Rattle.ir_flat.specs.Flat.{Flat, thread_of, tables, machine as machine_of, IsFlat}
use Rattle.ir_flat.proofs.CallerLemmas.{events_added_by, tried_object_exists}
use Rattle.ir_log.specs.Logged.{Logged}
use Rattle.ir_log.specs.Logging.{label_of}
use Rattle.ir_log.specs.declared.event.Event.{Event}
use Rattle.ir_log.specs.declared.event.Event.TheVariants as event
use Rattle.ir_trace.specs.Bounds.{IsEvent}
use Rattle.ir_record.specs.Progress.{HasLogs, log_at}
use Rattle.ir_record.proofs.Entering.{OneEventLogged, step_label_is_emitted, entry_logs_itself, entry_logs_no_answer}

-- there is room to log a try
pub try_events_below_limit : (f : Flat) (t o : ℕ) → ask_of f.code (thread_of f t) ≡ Try o → (thread_of f t).events < most_events
try_events_below_limit f t o is = (subst (Permits (thread_of f t)) is (ask_of_permitted f.code (thread_of f t))).1

-- a try may always be refused
pub refused_try_can_step : (f : Flat) (t o : ℕ) → ask_of f.code (thread_of f t) ≡ Try o → Can (machine_of f) (tables f) (t, 0)
refused_try_can_step f t o is = subst (λ q. Admits (machine_of f) (act_of (shared_ask q) 0) ((tables f).objects (target (act_of (shared_ask q) 0))))
    (sym is) tt

-- a try was taken with this result, and this event was logged of it
pub record TryLogged (f g : Flat) (logs more : List Logged) (t o r : ℕ) (e : Event) : Type 0 where
  pub has_logs : HasLogs f logs
  pub flat : IsFlat f
  pub below : t < length f.threads
  pub asked : ask_of f.code (thread_of f t) ≡ Try o
  pub can : Can (machine_of f) (tables f) (t, r)
  pub taken : tables g ≡ after (machine_of f) (tables f) (t, r)
  pub code : g.code ≡ f.code
  pub threads : length g.threads ≡ length f.threads
  pub objects : length g.objects ≡ length f.objects
  pub new : Logged
  pub pushed : new ≡ record (log_at logs t) { events = (log_at logs t).events ++ e ∷ [] }
  pub logs_are : more ≡ set logs t new

-- what an entry of object o for writing emits now
abbrev pub write_entry_label : Flat → ℕ → Label
write_entry_label f o = emitted (machine.Entered o Writing 0) ((tables f).objects o)

-- it entered
pub entering_try_logs_one : (f g : Flat) (logs more : List Logged) (t o : ℕ) (e : Event) → TryLogged f g logs more t o 1 e → label_of e ≡ write_entry_label f o
    → ((profile : Profile) → IsEvent profile (length f.objects) e) → OneEventLogged f g logs more t 1 (write_entry_label f o) e
entering_try_logs_one f g logs more t o e x emits fits = record {
  has_logs = x.has_logs;
  flat = x.flat;
  below = x.below;
  one = ap events_added_by x.asked;
  emits = step_label_is_emitted f t 1 (Try o) x.asked;
  event = emits;
  once = entry_logs_itself o Writing 0 ((tables f).objects o);
  unanswered = entry_logs_no_answer o Writing 0 ((tables f).objects o);
  fits = fits (thread_of f t).profile;
  can = x.can;
  taken = x.taken;
  code = x.code;
  threads = x.threads;
  objects = x.objects;
  new = x.new;
  pushed = x.pushed;
  logs_are = x.logs_are;
}

-- it was refused
pub refused_try_logs_one : (f g : Flat) (logs more : List Logged) (t o : ℕ) → TryLogged f g logs more t o 0 (event.Try o)
    → OneEventLogged f g logs more t 0 (FailedTry o) (event.Try o)
refused_try_logs_one f g logs more t o x = record {
  has_logs = x.has_logs;
  flat = x.flat;
  below = x.below;
  one = ap events_added_by x.asked;
  emits = step_label_is_emitted f t 0 (Try o) x.asked;
  event = refl;
  once = refl;
  unanswered = refl;
  fits = (
    (subst (Permits (thread_of f t)) x.asked (ask_of_permitted f.code (thread_of f t))).4,
    tried_object_exists f t o x.flat x.below x.asked,
  );
  can = x.can;
  taken = x.taken;
  code = x.code;
  threads = x.threads;
  objects = x.objects;
  new = x.new;
  pushed = x.pushed;
  logs_are = x.logs_are;
}
