use Rattle.ir_who_word.proofs.Holding.{write_and_leave_hold}
use Rattle.ir_who_word.proofs.holds.hold_of.Goals as goal

pub returns-clause-hold : goal.returns-clause-hold
returns-clause-hold c o v l is = write_and_leave_hold c.args.fitted.now c.known.ensures.run c.args.place c.args.row c.step_of-entry.result c.in_ok-leave.leave o v l is
    c.in_ok-leave.ensures.found c.step_of-entry.ensures
