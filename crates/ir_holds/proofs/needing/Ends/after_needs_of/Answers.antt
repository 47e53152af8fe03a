use Rattle.std.proofs.Common.{◌+◌, sym, subst, arith}
use Rattle.std.proofs.lemmas.Option.{slice_get-get_or}
use Rattle.ir_holds.specs.Needing.{IsAfterThese}
use Rattle.ir_holds.proofs.Defaults.{no_event}
use Rattle.ir_holds.proofs.Needs.{FirstNeedLike, after_needs_with_next, after_needs_of_all_events}
use Rattle.ir_holds.proofs.needing.Ends.after_needs_of.Goals as goal

pub loop-event-preserved : goal.loop-event-preserved
loop-event-preserved c = λ r boxes holds.
    let es = c.args.events.now in
    let n = c.loop-event.event-index in
    subst (IsAfterThese r boxes (FirstNeedLike es (n + 1))) (sym c.later-place.ensures)
    (after_needs_with_next r boxes es n _ c.loop-event.place c.after_needs.result (slice_get-get_or es n no_event c.loop-event-test.true)
    (c.loop-event.invariant r boxes holds) (c.after_needs.ensures r boxes holds))

pub returns : goal.returns
returns c = λ r boxes holds. after_needs_of_all_events r boxes c.args.events.now c.loop-event.event-index c.loop-event.place
    (let past = c.loop-event-test.false in omega (arith, past)) (c.loop-event.invariant r boxes holds)
