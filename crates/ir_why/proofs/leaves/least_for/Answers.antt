use Rattle.std.proofs.Common.{arith}
use Rattle.ir_fit.proofs.CallerLemmas.{event_position_below}
use Rattle.ir_opened.proofs.CallerLemmas.{entry_position_fits_64}
use Rattle.ir_why.proofs.leaves.least_for.Goals as goal

pub overflow_add-behind : goal.overflow_add-behind
overflow_add-behind c =
    let fits = entry_position_fits_64 c.args.fitted.now c.known.ensures c.args.here.thread c.args.here.event c.requires in
    let same = c.step_of-behind.ensures in omega (arith, fits, same)

pub least-requires-clause-steps : goal.least-requires-clause-steps
least-requires-clause-steps c =
    let inside = c.requires in
    let within = event_position_below c.args.fitted.now c.known.ensures.run c.args.here.thread inside.thread c.args.here.event inside.event in
    let same = c.step_of-behind.ensures in omega (arith, within, same)
