use Rattle.std.proofs.Common.{arith}
use Rattle.ir_hits.proofs.Standing.{last_are_consistent, equal_steps_are_cut}
use Rattle.ir_hits.proofs.stepping.take_step.Goals as goal

pub advance_alone-here-requires-clause-target : goal.advance_alone-here-requires-clause-target
advance_alone-here-requires-clause-target g c = (c.requires.last.size, last_are_consistent c.args.fitted.now c.args.last.now c.requires.last)

pub least-requires-clause-consistent : goal.least-requires-clause-consistent
least-requires-clause-consistent g c = (equal_steps_are_cut c.args.fitted.now c.advance_alone-here.result.0 c.in_ok-at.at c.threads.result.now
    c.threads.ensures c.advance_alone-here.ensures.stands c.in_ok-at.ensures.size c.in_ok-at.ensures.here).consistent

pub bring-requires-clause-below : goal.bring-requires-clause-below
bring-requires-clause-below g c κs within t =
    let here = (equal_steps_are_cut c.args.fitted.now c.advance_alone-here.result.0 c.in_ok-at.at c.threads.result.now
    c.threads.ensures c.advance_alone-here.ensures.stands c.in_ok-at.ensures.size c.in_ok-at.ensures.here).here t in
    let above = c.in_ok-next.ensures.above t in
    omega (arith, here, above)
