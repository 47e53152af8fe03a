use Rattle.std.proofs.Common.{◌<◌, subst}
use Rattle.ir_cut.proofs.Stepping.{leave_positions_sorted}
use Rattle.ir_cut.proofs.falling.leaves_inside.Goals as goal

pub count_before-requires : goal.count_before-requires
count_before-requires c = leave_positions_sorted c.args.fitted.now c.requires.fitted c.loop-t.t c.leaves.result.now
    (subst (λ n. c.loop-t.t < n) c.requires.size c.loop-t-test.true) c.leaves.ensures
