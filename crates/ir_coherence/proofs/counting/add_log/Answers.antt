use Rattle.std.proofs.Common.{map, take, length, arith}
use Rattle.std.proofs.lemmas.List.{length-map, length-take-le}
use Rattle.ir_log.specs.Logging.{label_of}
use Rattle.ir_coherence.proofs.Logs.{room_after_counted, counts_more_take_step}
use Rattle.ir_coherence.proofs.counting.add_log.Goals as goal

pub add-requires-clause-room : goal.add-requires-clause-room
add-requires-clause-room c =
    let events = c.args.events.now in
    let i = c.loop-event.event-index in
    room_after_counted c.args.counts.now c.loop-event.counts (map label_of (take i events)) (length events) 1 c.requires.room c.loop-event.invariant
    (omega (arith, length-map (take i events) label_of, length-take-le i events (omega arith)))

pub loop-event-preserved : goal.loop-event-preserved
loop-event-preserved c = counts_more_take_step c.args.counts.now c.loop-event.counts c.add.new.self c.args.events.now c.loop-event.event-index _
    c.loop-event-test.true c.loop-event.invariant c.in_ok-add.ensures
