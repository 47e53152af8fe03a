use Rattle.std.proofs.Common.{◌∙◌}
use Rattle.ir_cut.proofs.Stepping.{looked_up_events_equal, events_count_positions}
use Rattle.ir_cut.proofs.logs.log_of.Goals as goal

pub returns-clause-size : goal.returns-clause-size
returns-clause-size c = events_count_positions c.args.fitted.now c.known.ensures c.args.t c.events.result.now c.requires
    (looked_up_events_equal c.args.fitted.now c.known.ensures.run c.trace.result.now c.threads.result.now c.args.t c.index-threads-t.result
    c.events.result.now c.trace.ensures.value c.threads.ensures.value c.requires c.index-threads-t.is
    (c.events.ensures.value ∙ c.log.ensures))
