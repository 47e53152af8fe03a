use Rattle.std.proofs.Common.{◌∙◌}
use Rattle.ir_state_store.specs.Nodes.{cell_in}
use Rattle.ir_state_store.proofs.Lists.{push_is_map_take}
use Rattle.ir_state_store.proofs.objects.objects_at.Goals as goal

pub loop-spot-preserved : goal.loop-spot-preserved
loop-spot-preserved c =
    let words = c.args.words.now in
    c.in_ok-push.ensures.items
    ∙ push_is_map_take (cell_in words) c.args.spots.now c.loop-spot.objects.items c.object_at-object.result c.loop-spot.spot-index _
    c.loop-spot-test.true c.loop-spot.invariant c.object_at-object.ensures
