use Rattle.std.proofs.Common.{arith}
use Rattle.ir_fit.proofs.ByVersion.{adds_all_events_step}
use Rattle.ir_fit.proofs.run_visits.add_entries.Goals as goal

pub loop-place-preserved : goal.loop-place-preserved
loop-place-preserved c = adds_all_events_step c.args.visits.now c.loop-place.visits c.add_entry.new.visits c.args.thread c.args.events.now
    c.args.positions.now c.loop-place.place _ (omega (arith, c.loop-place-test.true)) (omega (arith, c.loop-place-test.true, c.requires))
    c.loop-place.invariant c.in_ok-add_entry.ensures
