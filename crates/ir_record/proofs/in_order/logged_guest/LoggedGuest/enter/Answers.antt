use Rattle.std.proofs.Common.{ap, ◌∙◌, refl, [], ◌∷◌, ◌++◌, set}
use Rattle.ir_thread.specs.declared.ask.Ask.TheVariants.{Enter}
use Rattle.ir_runs.specs.Machine.{Label, emitted}
use Rattle.ir_runs.specs.Machine as machine
use Rattle.ir_flat.specs.Flat.{thread_of, tables}
use Rattle.ir_flat.proofs.CallerLemmas.{events_added_by, entered_object_exists}
use Rattle.ir_log.specs.Logged.{Logged}
use Rattle.ir_record.proofs.Logs.{log_has_room, looked_up_log_is_log_at}
use Rattle.ir_record.proofs.Entering.{OneEventLogged, on_ok_fact_holds, on_err_fact_holds, no_step_if_entry_cannot, turn_by_logged_event}
use Rattle.ir_record.proofs.Entering.{has_logs_logged_event, step_label_is_emitted, entry_logs_itself, entry_logs_no_answer}
use Rattle.ir_record.proofs.Entering.{entry_events_below_limit, turn_took_no_step, has_logs_of_equal_flat}
use Rattle.ir_record.proofs.Steps.{no_try_enters_if_free}
use Rattle.ir_record.proofs.in_order.logged_guest.LoggedGuest.enter.Goals as goal

pub entry-event-requires : goal.entry-event-requires
entry-event-requires c = entered_object_exists c.args.self.now.flat c.args.t c.args.object c.args.access c.requires.flat c.requires.thread
    c.requires.asked

pub returns-then-is_err-clause-took : goal.returns-then-is_err-clause-took
returns-then-is_err-clause-took c = turn_took_no_step c.args.self.now.flat c.take.new.self c.args.self.now.logs.items c.args.t
    (no_step_if_entry_cannot c.args.self.now.flat c.args.t c.args.object c.args.access c.requires.asked
    (on_err_fact_holds c.take.result c.is_err.result _ c.is_err.ensures.value c.if-is_err.true c.take.ensures.refused))
    (on_err_fact_holds c.take.result c.is_err.result _ c.is_err.ensures.value c.if-is_err.true c.take.ensures.unchanged)

pub returns-then-is_err-clause-has_logs : goal.returns-then-is_err-clause-has_logs
returns-then-is_err-clause-has_logs c = has_logs_of_equal_flat c.args.self.now.flat c.take.new.self c.args.self.now.logs.items c.requires.has_logs
    (on_err_fact_holds c.take.result c.is_err.result _ c.is_err.ensures.value c.if-is_err.true c.take.ensures.unchanged)

pub returns-then-is_err-clause-waits : goal.returns-then-is_err-clause-waits
returns-then-is_err-clause-waits c = λ none.
    on_err_fact_holds c.take.result c.is_err.result _ c.is_err.ensures.value c.if-is_err.true c.take.ensures.unchanged

pub push-requires : goal.push-requires
push-requires c = log_has_room c.args.self.now.flat c.args.self.now.logs.items c.args.t c.index_mut.result.now c.requires.has_logs c.requires.thread
    (looked_up_log_is_log_at c.args.self.now.flat c.args.self.now.logs.items c.args.t c.index_mut.result.now c.requires.has_logs c.requires.thread
    c.index_mut.ensures.value)
    (entry_events_below_limit c.args.self.now.flat c.args.t c.args.object c.args.access c.requires.asked)

abbrev told : (c : goal.After-self-1) → Label
told c = emitted (machine.Entered c.args.object c.args.access 0) ((tables c.args.self.now.flat).objects c.args.object)

entering : (c : goal.After-self-1) → OneEventLogged c.args.self.now.flat c.take.new.self c.args.self.now.logs.items
    (set c.args.self.now.logs.items c.args.t c.push.new.self) c.args.t 0 (told c) c.entry-event.result
entering c = record {
  has_logs = c.requires.has_logs;
  flat = c.requires.flat;
  below = c.requires.thread;
  one = ap events_added_by c.requires.asked;
  emits = step_label_is_emitted c.args.self.now.flat c.args.t 0 (Enter c.args.object c.args.access) c.requires.asked;
  event = c.entry-event.ensures.emitted;
  once = entry_logs_itself c.args.object c.args.access 0 ((tables c.args.self.now.flat).objects c.args.object);
  unanswered = entry_logs_no_answer c.args.object c.args.access 0 ((tables c.args.self.now.flat).objects c.args.object);
  fits = c.entry-event.ensures.fits (thread_of c.args.self.now.flat c.args.t).profile;
  can = on_ok_fact_holds c.take.result c.is_err.result _ c.is_err.ensures.value c.if-is_err.false c.take.ensures.admitted;
  taken = on_ok_fact_holds c.take.result c.is_err.result _ c.is_err.ensures.value c.if-is_err.false c.take.ensures.taken;
  code = c.take.ensures.code;
  threads = c.take.ensures.threads;
  objects = c.take.ensures.objects;
  new = c.push.new.self;
  pushed = c.push.ensures ∙ ap {A = Logged} {B = Logged} (λ l. record l { events = l.events ++ c.entry-event.result ∷ [] })
      (looked_up_log_is_log_at c.args.self.now.flat c.args.self.now.logs.items c.args.t c.index_mut.result.now c.requires.has_logs c.requires.thread
      c.index_mut.ensures.value);
  logs_are = refl;
}

pub returns-clause-took : goal.returns-clause-took
returns-clause-took c = turn_by_logged_event c.args.self.now.flat c.take.new.self c.args.self.now.logs.items
    (set c.args.self.now.logs.items c.args.t c.push.new.self) c.args.t 0 (told c) c.entry-event.result (entering c)
    (no_try_enters_if_free c.args.self.now.flat c.args.t 0 (Enter c.args.object c.args.access) c.requires.asked (λ o e. cc e))

pub returns-clause-has_logs : goal.returns-clause-has_logs
returns-clause-has_logs c = has_logs_logged_event c.args.self.now.flat c.take.new.self c.args.self.now.logs.items
    (set c.args.self.now.logs.items c.args.t c.push.new.self) c.args.t 0 (told c) c.entry-event.result (entering c)
