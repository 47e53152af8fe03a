use Rattle.std.proofs.Common.{Some, None, refl}
use Rattle.ir_crew.proofs.CallerLemmas.{step_of_deed}
use Rattle.ir_crew.specs.declared.deed.Deed.TheVariants.{Leave}
use Rattle.ir_thread.specs.declared.ask.Ask.TheVariants as ask
use Rattle.ir_record.proofs.WorkerSteps.{still_works_after_step, below_leave, inside_leave, reply_lowers_own_left}
use Rattle.ir_record.proofs.by_threads.worker.Worker.leave.Goals as goal

pub leave-requires-clause-object : goal.leave-requires-clause-object
leave-requires-clause-object g c = below_leave c.requires.worker c.requires.asked

pub leave-requires-clause-inside : goal.leave-requires-clause-inside
leave-requires-clause-inside g c = inside_leave c.requires.worker c.requires.asked

pub returns-clause-stays : goal.returns-clause-stays
returns-clause-stays g c = record {
  seat = c.leave.ensures.seat.0;
  still = still_works_after_step c.requires.worker.same_code (ask.Leave c.args.object c.args.access) 0
      (Some (step_of_deed c.args.object (Leave c.args.access c.leave.ensures.left.0))) None refl refl tt
      c.requires.asked c.leave.ensures.left.1 c.take_asked.ensures refl refl;
}

pub returns-clause-fewer : goal.returns-clause-fewer
returns-clause-fewer g c = reply_lowers_own_left _ _ _ c.requires.asked (λ done. absurd cc) c.take_asked.ensures
