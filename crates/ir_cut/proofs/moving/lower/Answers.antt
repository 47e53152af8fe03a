use Rattle.ir_cut.proofs.Moved.{lowered_next_place}
use Rattle.ir_cut.proofs.moving.lower.Goals as goal

pub loop-place-preserved : goal.loop-place-preserved
loop-place-preserved c = lowered_next_place c.args.positions.now.items c.loop-place.positions.items c.args.places.now c.loop-place.place-index
    c.index-position.result.now c.min.result c.requires c.loop-place.invariant c.loop-place-test.true c.index-position.ensures c.min.ensures
