use Rattle.ir_graph.specs.Hand.{IsAtSpot}
use Rattle.ir_graph.proofs.Gathered.{pairs_with_taken_push}
use Rattle.ir_graph.proofs.hands.spots_of.Goals as goal

pub loop-number-preserved : goal.loop-number-preserved
loop-number-preserved c = λ s at.
    let here = c.in-Some.ensures.object s at in
    pairs_with_taken_push (IsAtSpot c.args.flats.now.shared.words s.flat.objects) c.args.numbers.now c.loop-number.spots.items c.push.new.self.items
    c.loop-number.number-index 0 c.in-Some.spot c.loop-number-test.true (c.loop-number.invariant s at) c.in_ok-push.ensures.items
    (record { known = c.in-Some.ensures.within; within = here.0; own = here.1 })
