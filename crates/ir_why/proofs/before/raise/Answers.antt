use Rattle.std.proofs.Common.{◌≡◌, ◌<◌, length, get_or, Some, arith}
use Rattle.std.specs.Prelude.{slice_get}
use Rattle.std.proofs.lemmas.List.{get_or_read}
use Rattle.ir_past.specs.declared.place.Place.{Place}
use Rattle.ir_why.proofs.Gathered.{raised_by_next_event, place_is_get_or}
use Rattle.ir_why.proofs.before.raise.Goals as goal

pub loop-place-preserved : goal.loop-place-preserved
loop-place-preserved c =
    let n = c.loop-place.place-index in
    let places = c.args.places.now in
    let counts = c.loop-place.counts.items in
    let p : Place = get_or places n (record { thread = 0; event = 0 }) in
    let at : slice_get places n ≡ Some p = place_is_get_or places n (record { thread = 0; event = 0 }) c.loop-place-test.true in
    let own = c.requires n p at in
    let within : p.thread < length counts = omega (arith, own.0, c.loop-place.invariant.size) in
    let here : c.index-count.result.now ≡ get_or counts p.thread 0 = get_or_read counts p.thread c.index-count.result.now within c.index-count.ensures 0 in
    raised_by_next_event c.args.counts.now.items counts places n c.max.result p c.loop-place.invariant at within
    (omega (arith, c.max.ensures, here)) (omega (arith, c.max.ensures)) (λ d above more. omega (arith, c.max.ensures, here, above, more))
