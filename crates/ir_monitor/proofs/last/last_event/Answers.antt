use Rattle.std.proofs.Common.{arith, ◌-◌, length}
use Rattle.ir_monitor.proofs.LastSteps.{event_number_fits_32}
use Rattle.ir_monitor.proofs.last.last_event.Goals as goal

pub overflow_cast-result : goal.overflow_cast-result
overflow_cast-result c =
    let some = c.loop-later-test.true in
    let fits = event_number_fits_32 c.args.fitted.now c.known.ensures c.args.here.thread (length c.entries-steps.result.now - 1 - c.loop-later.later)
    c.entries-steps.result.now c.requires c.entries-steps.ensures (omega (arith, some)) in
    omega (arith, fits)
