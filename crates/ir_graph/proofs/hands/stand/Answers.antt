use Rattle.std.proofs.Common.{◌<◌, length, get_or, subst, arith}
use Rattle.ir_graph.specs.Hand.{IsAtSpot}
use Rattle.ir_state_store.specs.declared.spot.Spot.{Spot}
use Rattle.ir_graph.proofs.Gathered.{pairs_with_both_taken, equal_spots_same}
use Rattle.ir_graph.proofs.hands.stand.Goals as goal

pub loop-p-preserved : goal.loop-p-preserved
loop-p-preserved c = λ s at.
    let numbers = c.args.numbers.now in
    let p = c.loop-p.p in
    let less : p < length numbers = (let a = c.loop-p-test.true in let b = c.loop-p.auto.p-end in omega (arith, a, b)) in
    let too : p < length c.args.spots.now = (let a = c.if-numbers-spots.false in omega (arith, less, a)) in
    let here = c.in-Some.ensures.object s at in
    let spot : Spot = record { words = 0; low = 0; high = 0 } in
    pairs_with_both_taken (IsAtSpot c.args.flats.now.shared.words s.flat.objects) numbers c.args.spots.now p 0 spot less too (c.loop-p.invariant s at)
    (subst (IsAtSpot c.args.flats.now.shared.words s.flat.objects (get_or numbers p 0)) (equal_spots_same c.in-Some.spot (get_or c.args.spots.now p spot) c.if-ne.ensures)
    (record { known = c.in-Some.ensures.within; within = here.0; own = here.1 }))
