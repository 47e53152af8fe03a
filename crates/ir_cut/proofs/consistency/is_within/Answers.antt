use Rattle.ir_cut.proofs.Closed.{closed_test_sound}
use Rattle.ir_cut.proofs.consistency.is_within.Goals as goal

pub returns-then-positions-t : goal.returns-then-positions-t
returns-then-positions-t c = closed_test_sound c.args.fitted.now c.args.positions.now c.args.t c.steps_of.result c.is_closed.result
    c.steps_of.ensures c.if-positions-t.true c.is_closed.ensures
