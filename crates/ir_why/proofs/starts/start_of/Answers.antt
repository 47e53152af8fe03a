use Rattle.std.proofs.Common.{refl}
use Rattle.ir_why.proofs.Linked.{event_has_placed_box}
use Rattle.ir_why.proofs.starts.start_of.Goals as goal

pub returns-in-Some : goal.returns-in-Some
returns-in-Some c =
    let found = c.in-Some.ensures.found in
    record { number = found.0; box = c.in-Some.own; there = found.1; has = found.2; start = refl }

pub returns-in-None : goal.returns-in-None
returns-in-None c =
    let has = event_has_placed_box c.args.boxes.now c.args.place.thread c.args.place.event c.requires.there in
    absurd (c.in-None.ensures.none has.0 has.1 has.2 has.3)
