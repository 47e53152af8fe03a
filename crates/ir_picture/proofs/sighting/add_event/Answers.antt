use Rattle.ir_picture.proofs.Seen.{sights_before_no_sight, sights_before_sight, no_sight_if_nothing_new}
use Rattle.ir_picture.proofs.sighting.add_event.Goals as goal

pub returns-in_ok-push-clause-sights : goal.returns-in_ok-push-clause-sights
returns-in_ok-push-clause-sights c = rw c.in_ok-push.ensures.items
    (sights_before_sight c.args.trace.now c.args.boxes.now c.args.here.thread c.args.here.event c.args.sights.now.items c.in-Some-sight_of.sight
    c.requires.coherent c.requires.boxes c.in-Some-sight_of.ensures.found c.requires.sights)

pub returns-in_default-sight_of-clause-sights : goal.returns-in_default-sight_of-clause-sights
returns-in_default-sight_of-clause-sights c = sights_before_no_sight c.args.trace.now c.args.boxes.now c.args.here.thread c.args.here.event c.args.sights.now.items
    c.in_default-sight_of.ensures.none c.requires.sights

pub returns-in_default-clause-sights : goal.returns-in_default-clause-sights
returns-in_default-clause-sights c = sights_before_no_sight c.args.trace.now c.args.boxes.now c.args.here.thread c.args.here.event c.args.sights.now.items
    (λ s. no_sight_if_nothing_new c.args.trace.now c.args.boxes.now c.args.here.thread c.args.here.event s c.in_default.ensures.none) c.requires.sights
