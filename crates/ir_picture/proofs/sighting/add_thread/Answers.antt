use Rattle.std.proofs.Common.{◌≤◌, length, arith}
use Rattle.ir_trace.specs.Recorded.{recorded_thread}
use Rattle.ir_picture.proofs.Seen.{sights_before_thread}
use Rattle.ir_picture.proofs.sighting.add_thread.Goals as goal

pub returns : goal.returns
returns c =
    let all : length (recorded_thread c.args.trace.now c.args.thread).events ≤ c.loop-event.event = omega (
      arith,
      c.loop-event-test.false,
      c.loop-event.auto.event-end,
      c.events_of.ensures.count,
      c.events_of.ensures.few,
    ) in
    sights_before_thread c.args.trace.now c.args.boxes.now c.args.thread c.loop-event.event c.loop-event.sights.items all c.loop-event.invariant.sights
