use Rattle.std.proofs.Common.{refl, subst}
use Rattle.ir_record.specs.Working.{TouchesNothing}
use Rattle.ir_record.proofs.WorkerSteps.{works_after_own_step, reply_lowers_own_left}
use Rattle.ir_record.proofs.by_threads.worker.Worker.take_own_step.Goals as goal

pub returns-clause-stays : goal.returns-clause-stays
returns-clause-stays g c = record {
  seat = refl;
  still = works_after_own_step c.requires.worker.same_code c.args.asked c.requires.own c.requires.asked refl c.take_asked.ensures refl refl;
}

pub returns-clause-fewer : goal.returns-clause-fewer
returns-clause-fewer g c = reply_lowers_own_left _ _ _ c.requires.asked (λ done. subst TouchesNothing done c.requires.own) c.take_asked.ensures
