use Rattle.ir_fit.proofs.ByVersion.{adds_all_leaves_step}
use Rattle.ir_fit.proofs.run_visits.add_leaves.Goals as goal

pub loop-leave-preserved : goal.loop-leave-preserved
loop-leave-preserved c = adds_all_leaves_step c.args.visits.now c.loop-leave.visits c.add.new.self c.args.thread c.args.leaves.now
    c.loop-leave.leave-index _ c.loop-leave-test.true c.loop-leave.invariant c.in_ok-add.ensures
