use Rattle.ir_cut.proofs.Stepping.{falling_after_leave, leave_leaves_fewer, leave_keeps_counts}
use Rattle.ir_cut.proofs.falling.take_leave.Goals as goal

pub returns-clause-each : goal.returns-clause-each
returns-clause-each c = leave_keeps_counts c.args.fitted.now c.args.positions.now.items c.args.next.now.items c.args.t c.index.result.now
    c.requires.each c.requires.thread c.requires.above c.index.ensures

pub returns-clause-fewer : goal.returns-clause-fewer
returns-clause-fewer c = leave_leaves_fewer c.args.fitted.now c.args.positions.now.items c.args.next.now.items c.args.t c.index.result.now
    c.requires.each c.requires.thread c.requires.above c.index.ensures

pub returns-clause-falls : goal.returns-clause-falls
returns-clause-falls c = falling_after_leave c.args.fitted.now c.requires.fitted c.args.positions.now.items c.lower_for.new.positions.items
    c.args.next.now.items c.args.t c.index.result.now c.leaves.result.now _ c.requires.each c.requires.thread c.requires.above
    c.index.ensures
    c.leaves.ensures c.lower_for.ensures.lowered
