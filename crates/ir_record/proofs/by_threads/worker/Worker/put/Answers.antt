use Rattle.std.proofs.Common.{Some, None, refl}
use Rattle.ir_crew.proofs.CallerLemmas.{step_of_deed}
use Rattle.ir_crew.specs.declared.deed.Deed.TheVariants.{Put}
use Rattle.ir_thread.specs.declared.ask.Ask.TheVariants as ask
use Rattle.ir_record.proofs.WorkerSteps.{still_works_after_step, below_put, inside_put, reply_lowers_own_left}
use Rattle.ir_record.proofs.by_threads.worker.Worker.put.Goals as goal

pub put-requires-clause-object : goal.put-requires-clause-object
put-requires-clause-object g c = below_put c.requires.worker c.requires.asked

pub put-requires-clause-inside : goal.put-requires-clause-inside
put-requires-clause-inside g c = inside_put c.requires.worker c.requires.asked

pub returns-clause-stays : goal.returns-clause-stays
returns-clause-stays g c = record {
  seat = c.put.ensures.seat.0;
  still = still_works_after_step c.requires.worker.same_code (ask.Put c.args.object c.args.index c.args.value) 0
      (Some (step_of_deed c.args.object (Put c.args.index c.args.value))) None refl refl tt
      c.requires.asked c.put.ensures.put c.take_asked.ensures refl refl;
}

pub returns-clause-fewer : goal.returns-clause-fewer
returns-clause-fewer g c = reply_lowers_own_left _ _ _ c.requires.asked (λ done. absurd cc) c.take_asked.ensures
