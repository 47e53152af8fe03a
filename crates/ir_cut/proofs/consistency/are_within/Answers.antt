use Rattle.std.proofs.Common.{◌<◌, subst}
use Rattle.ir_cut.proofs.Closed.{inconsistent_if_unclosed, first_closed_step, last_closed_consistent}
use Rattle.ir_cut.proofs.consistency.are_within.Goals as goal

pub returns-then-not-is_within : goal.returns-then-not-is_within
returns-then-not-is_within c = inconsistent_if_unclosed c.args.fitted.now c.requires.fitted c.args.positions.now c.loop-t.t c.is_within.result
    (subst (λ n. c.loop-t.t < n) c.requires.size c.loop-t-test.true) c.is_within.ensures c.if-not-is_within.true

pub loop-t-preserved : goal.loop-t-preserved
loop-t-preserved c = first_closed_step c.args.fitted.now c.args.positions.now c.loop-t.t c.is_within.result c.is_within.ensures
    c.if-not-is_within.false c.loop-t.invariant

pub returns : goal.returns
returns c = last_closed_consistent c.args.fitted.now c.requires.fitted.run c.args.positions.now c.loop-t.t c.requires.size c.loop-t-test.false
    c.loop-t.invariant
