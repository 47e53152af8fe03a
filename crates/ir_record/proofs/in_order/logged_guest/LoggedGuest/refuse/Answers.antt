use Rattle.std.proofs.Common.{[], ◌∷◌, ◌++◌, set, refl, ap, ◌∙◌}
use Rattle.ir_lemmas.proofs.CallerLemmas.{ok_fact_holds}
use Rattle.ir_runs.specs.Machine.{FailedTry}
use Rattle.ir_runs.specs.Run.{Can}
use Rattle.ir_flat.specs.Flat.{tables, machine}
use Rattle.ir_log.specs.Logged.{Logged}
use Rattle.ir_log.specs.declared.event.Event.TheVariants as event
use Rattle.ir_record.specs.Progress.{progress}
use Rattle.ir_record.proofs.Logs.{log_has_room, looked_up_log_is_log_at}
use Rattle.ir_record.proofs.Entering.{OneEventLogged, one_step_by_event, has_logs_logged_event}
use Rattle.ir_record.proofs.Steps.{took_refused_turn}
use Rattle.ir_record.proofs.Trying.{try_events_below_limit, refused_try_can_step, refused_try_logs_one}
use Rattle.ir_record.proofs.in_order.logged_guest.LoggedGuest.refuse.Goals as goal

pub push-requires : goal.push-requires
push-requires c = log_has_room c.args.self.now.flat c.args.self.now.logs.items c.args.t c.index_mut.result.now c.requires.has_logs c.requires.thread
    (looked_up_log_is_log_at c.args.self.now.flat c.args.self.now.logs.items c.args.t c.index_mut.result.now c.requires.has_logs c.requires.thread
    c.index_mut.ensures.value) (try_events_below_limit c.args.self.now.flat c.args.t c.args.object c.requires.asked)

refused : (c : goal.After-self-1) → OneEventLogged c.args.self.now.flat c.take.new.self c.args.self.now.logs.items
    (set c.args.self.now.logs.items c.args.t c.push.new.self) c.args.t 0 (FailedTry c.args.object) (event.Try c.args.object)
refused c =
    let f = c.args.self.now.flat in
    let can = refused_try_can_step f c.args.t c.args.object c.requires.asked in
    refused_try_logs_one f c.take.new.self c.args.self.now.logs.items (set c.args.self.now.logs.items c.args.t c.push.new.self) c.args.t c.args.object
    (record {
      has_logs = c.requires.has_logs;
      flat = c.requires.flat;
      below = c.requires.thread;
      asked = c.requires.asked;
      can = can;
      taken = ok_fact_holds c.take.result (Can (machine f) (tables f) (c.args.t, 0)) _ can c.take.ensures.refused c.take.ensures.taken;
      code = c.take.ensures.code;
      threads = c.take.ensures.threads;
      objects = c.take.ensures.objects;
      new = c.push.new.self;
      pushed = c.push.ensures ∙ ap {A = Logged} {B = Logged} (λ l. record l { events = l.events ++ event.Try c.args.object ∷ [] })
          (looked_up_log_is_log_at f c.args.self.now.logs.items c.args.t c.index_mut.result.now c.requires.has_logs c.requires.thread c.index_mut.ensures.value);
      logs_are = refl;
    })

pub returns-clause-took : goal.returns-clause-took
returns-clause-took c = λ answers. took_refused_turn c.args.t (FailedTry c.args.object) (progress c.args.self.now answers)
    (record { flat = c.take.new.self; logs = set c.args.self.now.logs.items c.args.t c.push.new.self; answers = answers })
    (one_step_by_event c.args.self.now.flat c.take.new.self c.args.self.now.logs.items (set c.args.self.now.logs.items c.args.t c.push.new.self)
    c.args.t 0 (FailedTry c.args.object) (event.Try c.args.object) (refused c) answers)

pub returns-clause-has_logs : goal.returns-clause-has_logs
returns-clause-has_logs c = has_logs_logged_event c.args.self.now.flat c.take.new.self c.args.self.now.logs.items
    (set c.args.self.now.logs.items c.args.t c.push.new.self) c.args.t 0 (FailedTry c.args.object) (event.Try c.args.object) (refused c)
