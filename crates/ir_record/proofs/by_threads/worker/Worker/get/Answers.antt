use Rattle.std.proofs.Common.{Some, None, refl}
use Rattle.ir_crew.proofs.CallerLemmas.{step_of_deed}
use Rattle.ir_crew.specs.declared.deed.Deed.TheVariants.{Get}
use Rattle.ir_thread.specs.declared.ask.Ask.TheVariants as ask
use Rattle.ir_record.proofs.WorkerSteps.{still_works_after_step, below_get, inside_get, reply_lowers_own_left}
use Rattle.ir_record.proofs.by_threads.worker.Worker.get.Goals as goal

pub get-value-requires-clause-object : goal.get-value-requires-clause-object
get-value-requires-clause-object g c = below_get c.requires.worker c.requires.asked

pub get-value-requires-clause-inside : goal.get-value-requires-clause-inside
get-value-requires-clause-inside g c = inside_get c.requires.worker c.requires.asked

pub returns-clause-stays : goal.returns-clause-stays
returns-clause-stays g c = record {
  seat = c.get-value.ensures.seat.0;
  still = still_works_after_step c.requires.worker.same_code (ask.Get c.args.object c.args.index) c.get-value.result
      (Some (step_of_deed c.args.object (Get c.args.index c.get-value.result))) None tt refl tt
      c.requires.asked c.get-value.ensures.got c.take_asked.ensures refl refl;
}

pub returns-clause-fewer : goal.returns-clause-fewer
returns-clause-fewer g c = reply_lowers_own_left _ _ _ c.requires.asked (λ done. absurd cc) c.take_asked.ensures
