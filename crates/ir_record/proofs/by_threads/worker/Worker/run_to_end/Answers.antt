use Rattle.std.proofs.Common.{◌≡◌, true, sym, ap, ◌∙◌, subst}
use Rattle.ir_thread.specs.State.{ask_of}
use Rattle.ir_record.specs.Working.{work_of_worker, IsOutside}
use Rattle.ir_record.proofs.WorkerSteps.{seated_on, inside_worker}
use Rattle.ir_record.proofs.by_threads.worker.Worker.run_to_end.Goals as goal

pub take_private_steps-asked-requires : goal.take_private_steps-asked-requires
take_private_steps-asked-requires g c = record { worker = seated_on c.requires.seated c.steps.invariant.stays }

pub ask_world-requires-clause-worker : goal.ask_world-requires-clause-worker
ask_world-requires-clause-worker g c = seated_on (seated_on c.requires.seated c.steps.invariant.stays) c.take_private_steps-asked.ensures.stays

pub take_step-requires-clause-worker : goal.take_step-requires-clause-worker
take_step-requires-clause-worker g c = seated_on (seated_on c.requires.seated c.steps.invariant.stays) c.take_private_steps-asked.ensures.stays

pub release_all-requires-clause-worker : goal.release_all-requires-clause-worker
release_all-requires-clause-worker g c =
    inside_worker (seated_on (seated_on c.requires.seated c.steps.invariant.stays) c.take_private_steps-asked.ensures.stays)
    (ap (λ s. s.me) c.in-Err.ensures.stopped.seat) c.in-Err.ensures.stopped.thread

pub returns-in-Err : goal.returns-in-Err
returns-in-Err g c =
    let last = c.take_private_steps-asked.new.self in
    let stopped = c.in-Err.ensures.stopped in
    let failed : g.W.World.broken c.release_all.new.self.world ≡ true = ap g.W.World.broken c.release_all.ensures.world ∙ stopped.failed in
    record {
      stays = λ works. absurd (cc (works, failed));
      done = λ works. absurd (cc (works, failed));
      worked = λ _. record {
        last = work_of_worker g.W.World.answers last;
        still = λ budget profile t before i. c.take_private_steps-asked.ensures.stays.still budget profile t before
            (c.steps.invariant.stays.still budget profile t before i);
        asks = (stopped.asks.0, ap (λ code. ask_of code last.thread) (sym c.requires.seated.same_code) ∙ stopped.asks.1);
        no_more = ap g.W.World.answers c.release_all.ensures.world ∙ stopped.no_more;
      };
      released = λ _. subst (λ id. IsOutside id c.release_all.new.self.seat)
          (ap (λ s. s.table_id) stopped.seat ∙ c.take_private_steps-asked.ensures.stays.seat ∙ c.steps.invariant.stays.seat)
          c.release_all.ensures.released;
      same_origin = ap g.W.World.origin c.release_all.ensures.world ∙ c.ask_world.ensures.world
          ∙ ap g.W.World.origin c.take_private_steps-asked.ensures.world ∙ c.steps.invariant.same_origin;
    }
