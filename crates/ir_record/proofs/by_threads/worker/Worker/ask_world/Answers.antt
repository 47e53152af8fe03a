use Rattle.std.proofs.Common.{Some, None, refl}
use Rattle.ir_log.specs.declared.event.Event.TheVariants as event
use Rattle.ir_thread.specs.declared.ask.Ask.TheVariants as ask
use Rattle.ir_record.proofs.WorkerSteps.{still_works_after_step, answer_room, reply_lowers_own_left}
use Rattle.ir_record.proofs.by_threads.worker.Worker.ask_world.Goals as goal

pub push-requires : goal.push-requires
push-requires g c = answer_room c.requires.worker c.requires.asked

pub returns-in-Ok-clause-stays : goal.returns-in-Ok-clause-stays
returns-in-Ok-clause-stays g c = record {
  seat = refl;
  still = still_works_after_step c.requires.worker.same_code (ask.Env c.args.kind) c.in-Ok.value None (Some (event.Answer c.args.kind c.in-Ok.value))
      c.in-Ok.ensures.fits refl (c.in-Ok.ensures.fits, tt)
      c.requires.asked refl c.take_asked.ensures c.push.ensures c.in-Ok.ensures.answered;
}

pub returns-in-Err-clause-stopped : goal.returns-in-Err-clause-stopped
returns-in-Err-clause-stopped g c = record {
  failed = c.in-Err.ensures.failed;
  seat = refl;
  thread = refl;
  asks = (c.args.kind, c.requires.asked);
  no_more = c.in-Err.ensures.kept;
}

pub returns-in-Ok-clause-fewer : goal.returns-in-Ok-clause-fewer
returns-in-Ok-clause-fewer g c = reply_lowers_own_left _ _ _ c.requires.asked (λ done. absurd cc) c.take_asked.ensures
