use Rattle.std.proofs.Common.{◌≡◌, ap, ◌∙◌, refl, sym, subst, [], ◌∷◌, ◌++◌, set}
use Rattle.ir_lemmas.proofs.CallerLemmas.{ok_fact_holds}
use Rattle.ir_thread.specs.State.{ask_of}
use Rattle.ir_thread.specs.declared.ask.Ask.TheVariants.{Try}
use Rattle.ir_runs.specs.Machine.{FailedTry}
use Rattle.ir_runs.specs.Run.{Can, after}
use Rattle.ir_flat.specs.Flat.{thread_of, tables, machine}
use Rattle.ir_flat.proofs.CallerLemmas.{tried_object_exists}
use Rattle.ir_log.specs.Logged.{Logged}
use Rattle.ir_log.specs.declared.event.Event.TheVariants as event
use Rattle.ir_record.proofs.Logs.{log_has_room, looked_up_log_is_log_at}
use Rattle.ir_record.proofs.Entering.{turn_by_logged_event, has_logs_logged_event}
use Rattle.ir_record.proofs.Trying.{TryLogged, try_events_below_limit, refused_try_can_step, write_entry_label, entering_try_logs_one, refused_try_logs_one}
use Rattle.ir_record.proofs.in_order.logged_guest.LoggedGuest.try_to_enter.Goals as goal

pub entry-event-requires : goal.entry-event-requires
entry-event-requires c = tried_object_exists c.args.self.now.flat c.args.t c.args.object c.requires.flat c.requires.thread c.requires.asked

pub push-requires : goal.push-requires
push-requires c = log_has_room c.args.self.now.flat c.args.self.now.logs.items c.args.t c.index_mut.result.now c.requires.has_logs c.requires.thread
    (looked_up_log_is_log_at c.args.self.now.flat c.args.self.now.logs.items c.args.t c.index_mut.result.now c.requires.has_logs c.requires.thread
    c.index_mut.ensures.value) (try_events_below_limit c.args.self.now.flat c.args.t c.args.object c.requires.asked)

entered : (c : goal.After-self-1) → TryLogged c.args.self.now.flat c.take.new.self c.args.self.now.logs.items
    (set c.args.self.now.logs.items c.args.t c.push.new.self) c.args.t c.args.object 1 c.entry-event.result
entered c = record {
  has_logs = c.requires.has_logs;
  flat = c.requires.flat;
  below = c.requires.thread;
  asked = c.requires.asked;
  can = c.in-Ok.ensures.admitted;
  taken = c.in-Ok.ensures.taken;
  code = c.take.ensures.code;
  threads = c.take.ensures.threads;
  objects = c.take.ensures.objects;
  new = c.push.new.self;
  pushed = c.push.ensures ∙ ap {A = Logged} {B = Logged} (λ l. record l { events = l.events ++ c.entry-event.result ∷ [] })
      (looked_up_log_is_log_at c.args.self.now.flat c.args.self.now.logs.items c.args.t c.index_mut.result.now c.requires.has_logs c.requires.thread
      c.index_mut.ensures.value);
  logs_are = refl;
}

pub returns-in-Ok-clause-took : goal.returns-in-Ok-clause-took
returns-in-Ok-clause-took c = turn_by_logged_event c.args.self.now.flat c.take.new.self c.args.self.now.logs.items
    (set c.args.self.now.logs.items c.args.t c.push.new.self) c.args.t 1 (write_entry_label c.args.self.now.flat c.args.object)
    c.entry-event.result
    (entering_try_logs_one c.args.self.now.flat c.take.new.self c.args.self.now.logs.items (set c.args.self.now.logs.items c.args.t c.push.new.self)
    c.args.t c.args.object c.entry-event.result (entered c) c.entry-event.ensures.emitted c.entry-event.ensures.fits)
    (λ o tries can. refl)

pub returns-in-Ok-clause-has_logs : goal.returns-in-Ok-clause-has_logs
returns-in-Ok-clause-has_logs c = has_logs_logged_event c.args.self.now.flat c.take.new.self c.args.self.now.logs.items
    (set c.args.self.now.logs.items c.args.t c.push.new.self) c.args.t 1 (write_entry_label c.args.self.now.flat c.args.object)
    c.entry-event.result
    (entering_try_logs_one c.args.self.now.flat c.take.new.self c.args.self.now.logs.items (set c.args.self.now.logs.items c.args.t c.push.new.self)
    c.args.t c.args.object c.entry-event.result (entered c) c.entry-event.ensures.emitted c.entry-event.ensures.fits)

pub push-requires-in-Err : goal.push-requires-in-Err
push-requires-in-Err c = log_has_room c.args.self.now.flat c.args.self.now.logs.items c.args.t c.index_mut-in-Err.result.now c.requires.has_logs
    c.requires.thread
    (looked_up_log_is_log_at c.args.self.now.flat c.args.self.now.logs.items c.args.t c.index_mut-in-Err.result.now c.requires.has_logs c.requires.thread
    c.index_mut-in-Err.ensures.value) (try_events_below_limit c.args.self.now.flat c.args.t c.args.object c.requires.asked)

left_out : (c : goal.After-self-in-Err-1) → TryLogged c.args.self.now.flat c.take-in-Err.new.self c.args.self.now.logs.items
    (set c.args.self.now.logs.items c.args.t c.push-in-Err.new.self) c.args.t c.args.object 0 (event.Try c.args.object)
left_out c =
    let same = c.in-Err.ensures.unchanged in
    let f = c.take.new.self in
    let asked : ask_of f.code (thread_of f c.args.t) ≡ Try c.args.object =
    subst (λ z. ask_of z.code (thread_of z c.args.t) ≡ Try c.args.object) (sym same) c.requires.asked in
    record {
      has_logs = c.requires.has_logs;
      flat = c.requires.flat;
      below = c.requires.thread;
      asked = c.requires.asked;
      can = refused_try_can_step c.args.self.now.flat c.args.t c.args.object c.requires.asked;
      taken = subst (λ z. tables c.take-in-Err.new.self ≡ after (machine z) (tables z) (c.args.t, 0)) same
          (ok_fact_holds c.take-in-Err.result (Can (machine f) (tables f) (c.args.t, 0)) _ (refused_try_can_step f c.args.t c.args.object asked)
          c.take-in-Err.ensures.refused c.take-in-Err.ensures.taken);
      code = c.take-in-Err.ensures.code ∙ c.take.ensures.code;
      threads = c.take-in-Err.ensures.threads ∙ c.take.ensures.threads;
      objects = c.take-in-Err.ensures.objects ∙ c.take.ensures.objects;
      new = c.push-in-Err.new.self;
      pushed = c.push-in-Err.ensures ∙ ap {A = Logged} {B = Logged} (λ l. record l { events = l.events ++ event.Try c.args.object ∷ [] })
          (looked_up_log_is_log_at c.args.self.now.flat c.args.self.now.logs.items c.args.t c.index_mut-in-Err.result.now c.requires.has_logs
          c.requires.thread c.index_mut-in-Err.ensures.value);
      logs_are = refl;
    }

pub returns-in-Err-clause-took : goal.returns-in-Err-clause-took
returns-in-Err-clause-took c = turn_by_logged_event c.args.self.now.flat c.take-in-Err.new.self c.args.self.now.logs.items
    (set c.args.self.now.logs.items c.args.t c.push-in-Err.new.self) c.args.t 0 (FailedTry c.args.object) (event.Try c.args.object)
    (refused_try_logs_one c.args.self.now.flat c.take-in-Err.new.self c.args.self.now.logs.items
    (set c.args.self.now.logs.items c.args.t c.push-in-Err.new.self) c.args.t c.args.object (left_out c))
    (λ o tries can. absurd (c.in-Err.ensures.refused can))

pub returns-in-Err-clause-has_logs : goal.returns-in-Err-clause-has_logs
returns-in-Err-clause-has_logs c = has_logs_logged_event c.args.self.now.flat c.take-in-Err.new.self c.args.self.now.logs.items
    (set c.args.self.now.logs.items c.args.t c.push-in-Err.new.self) c.args.t 0 (FailedTry c.args.object) (event.Try c.args.object)
    (refused_try_logs_one c.args.self.now.flat c.take-in-Err.new.self c.args.self.now.logs.items
    (set c.args.self.now.logs.items c.args.t c.push-in-Err.new.self) c.args.t c.args.object (left_out c))
