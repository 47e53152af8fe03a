use Rattle.std.proofs.Common.{arith, ap, length}
use Rattle.ir_why.proofs.Waited.{entry_steps_sorted, entries_fit_32_bits}
use Rattle.ir_why.proofs.fit_before.events_before.Goals as goal

pub count_below-requires : goal.count_below-requires
count_below-requires c = entry_steps_sorted c.args.fitted.now c.known.ensures.run c.args.thread c.entries.result.now c.requires c.entries.ensures

pub overflow_cast-result : goal.overflow_cast-result
overflow_cast-result c =
    let few = entries_fit_32_bits c.args.fitted.now c.known.ensures c.args.thread c.requires in
    let long = ap length c.entries.ensures in
    omega (arith, few, long, c.count_below.ensures.bound)
