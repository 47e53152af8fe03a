use Rattle.std.proofs.Common.{◌<◌, subst}
use Rattle.ir_cut.proofs.Stepping.{event_positions_sorted}
use Rattle.ir_cut.proofs.rising.events_inside.Goals as goal

pub count_below-requires : goal.count_below-requires
count_below-requires c = event_positions_sorted c.args.fitted.now c.requires.fitted c.loop-t.t c.entries.result.now
    (subst (λ n. c.loop-t.t < n) c.requires.size c.loop-t-test.true) c.entries.ensures
