use Rattle.std.proofs.Common.{arith}
use Rattle.ir_past.specs.Past.{write_one}
use Rattle.ir_past.proofs.Totals.{count_and_rest_is_total, total_if_all_counted}
use Rattle.ir_past.proofs.counts.writes_in.Goals as goal

pub loop-event-preserved : goal.loop-event-preserved
loop-event-preserved c = record {
  total = count_and_rest_is_total write_one c.args.events.now c.loop-event.event-index _ c.loop-event.count c.write_one-count.result _ c.loop-event-test.true
      c.write_one-count.ensures.value c.loop-event.invariant.total;
  few = omega (arith, c.write_one-count.ensures.small, c.loop-event.invariant.few);
}

pub returns-clause-count : goal.returns-clause-count
returns-clause-count c = total_if_all_counted write_one c.args.events.now c.loop-event.event-index c.loop-event.count _ c.loop-event-test.false
    c.loop-event.invariant.total
