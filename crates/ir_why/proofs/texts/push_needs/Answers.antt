use Rattle.std.proofs.Common.{get_or}
use Rattle.ir_past.specs.declared.place.Place.{Place}
use Rattle.ir_why.proofs.Gathered.{place_is_get_or}
use Rattle.ir_why.proofs.texts.push_needs.Goals as goal

pub push_need-requires-clause-thread : goal.push_need-requires-clause-thread
push_need-requires-clause-thread c =
    let n = c.loop-place.place-index in
    let none : Place = record { thread = 0; event = 0 } in
    (c.requires n (get_or c.args.needs.now n none) (place_is_get_or c.args.needs.now n none c.loop-place-test.true)).0

pub push_need-requires-clause-event : goal.push_need-requires-clause-event
push_need-requires-clause-event c =
    let n = c.loop-place.place-index in
    let none : Place = record { thread = 0; event = 0 } in
    (c.requires n (get_or c.args.needs.now n none) (place_is_get_or c.args.needs.now n none c.loop-place-test.true)).1
