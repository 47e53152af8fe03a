use Rattle.std.proofs.Common.{refl}
use Rattle.ir_record.proofs.WorkerSteps.{works_after_private, private_never_raise_left}
use Rattle.ir_record.proofs.by_threads.worker.Worker.take_private_steps.Goals as goal

pub returns-clause-stays : goal.returns-clause-stays
returns-clause-stays g c = record {
  seat = refl;
  still = works_after_private c.requires.worker.same_code c.run_to_ask-ran.result.0 c.run_to_ask-ran.ensures.steps refl refl refl;
}

pub returns-clause-not_more : goal.returns-clause-not_more
returns-clause-not_more g c = private_never_raise_left _ c.run_to_ask-ran.result.0 _ _ c.run_to_ask-ran.ensures.steps
