use Rattle.ir_cut.proofs.Stepping.{looked_up_steps_equal}
use Rattle.ir_cut.proofs.logs.steps_of.Goals as goal

pub returns : goal.returns
returns c = looked_up_steps_equal c.args.fitted.now c.known.ensures.run c.trace.result.now c.threads.result.now c.args.t c.index-threads-t.result
    c.steps.result c.trace.ensures.value c.threads.ensures.value c.requires c.index-threads-t.is c.steps.ensures
