use Rattle.std.proofs.Common.{ap, ◌∙◌, refl, [], ◌∷◌, ◌++◌, set}
use Rattle.ir_lemmas.proofs.CallerLemmas.{ok_fact_holds}
use Rattle.ir_flat.specs.Flat.{tables, machine}
use Rattle.ir_runs.specs.Run.{Can}
use Rattle.ir_log.specs.Logged.{Logged}
use Rattle.ir_log.specs.declared.event.Event.TheVariants as event
use Rattle.ir_record.proofs.Logs.{log_has_room, looked_up_log_is_log_at}
use Rattle.ir_record.proofs.Answering.{AnswerLogged, call_can_step, call_events_below_limit, has_logs_after_answer, turn_taken_by_answer}
use Rattle.ir_record.proofs.in_order.logged_guest.LoggedGuest.answer.Goals as goal

pub push-requires : goal.push-requires
push-requires c = log_has_room c.args.self.now.flat c.args.self.now.logs.items c.args.t c.index_mut.result.now c.requires.has_logs c.requires.thread
    (looked_up_log_is_log_at c.args.self.now.flat c.args.self.now.logs.items c.args.t c.index_mut.result.now c.requires.has_logs c.requires.thread
    c.index_mut.ensures.value)
    (call_events_below_limit c.args.self.now.flat c.args.t c.args.kind c.requires.asked)

answering : (c : goal.After-self-1) → AnswerLogged c.args.self.now.flat c.take.new.self c.args.self.now.logs.items
    (set c.args.self.now.logs.items c.args.t c.push.new.self) c.args.t c.args.value c.args.kind
answering c = record {
  has_logs = c.requires.has_logs;
  flat = c.requires.flat;
  below = c.requires.thread;
  asked = c.requires.asked;
  fits = c.requires.fits;
  taken = ok_fact_holds c.take.result (Can (machine c.args.self.now.flat) (tables c.args.self.now.flat) (c.args.t, c.args.value)) _
      (call_can_step c.args.self.now.flat c.args.t c.args.value c.args.kind c.requires.asked c.requires.fits) c.take.ensures.refused
      c.take.ensures.taken;
  code = c.take.ensures.code;
  threads = c.take.ensures.threads;
  objects = c.take.ensures.objects;
  new = c.push.new.self;
  pushed = c.push.ensures ∙ ap {A = Logged} {B = Logged} (λ l. record l { events = l.events ++ event.Answer c.args.kind c.args.value ∷ [] })
      (looked_up_log_is_log_at c.args.self.now.flat c.args.self.now.logs.items c.args.t c.index_mut.result.now c.requires.has_logs c.requires.thread
      c.index_mut.ensures.value);
  logged = refl;
}

pub returns-clause-took : goal.returns-clause-took
returns-clause-took c = turn_taken_by_answer c.args.self.now.flat c.take.new.self c.args.self.now.logs.items
    (set c.args.self.now.logs.items c.args.t c.push.new.self) c.args.t c.args.value c.args.kind (answering c)

pub returns-clause-has_logs : goal.returns-clause-has_logs
returns-clause-has_logs c = has_logs_after_answer c.args.self.now.flat c.take.new.self c.args.self.now.logs.items
    (set c.args.self.now.logs.items c.args.t c.push.new.self) c.args.t c.args.value c.args.kind (answering c)
