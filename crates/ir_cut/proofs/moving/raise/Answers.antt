use Rattle.ir_cut.proofs.Moved.{raised_next_place}
use Rattle.ir_cut.proofs.moving.raise.Goals as goal

pub loop-place-preserved : goal.loop-place-preserved
loop-place-preserved c = raised_next_place c.args.positions.now.items c.loop-place.positions.items c.args.places.now c.loop-place.place-index
    c.index-position.result.now c.max.result c.requires c.loop-place.invariant c.loop-place-test.true c.index-position.ensures c.max.ensures
