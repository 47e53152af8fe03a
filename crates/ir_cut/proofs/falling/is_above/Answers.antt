use Rattle.ir_cut.proofs.Stepping.{indexed_none_above}
use Rattle.ir_cut.proofs.falling.is_above.Goals as goal

pub returns-in-Some-clause-none : goal.returns-in-Some-clause-none
returns-in-Some-clause-none c out = indexed_none_above c.args.fitted.now c.requires.fitted c.args.positions.now c.args.next.now c.args.t
    c.in-Some.last c.leaves.result.now _ c.requires.each c.requires.thread c.in-Some.ensures c.leaves.ensures out
