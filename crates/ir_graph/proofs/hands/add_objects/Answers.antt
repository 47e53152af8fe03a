use Rattle.std.proofs.Common.{◌∙◌}
use Rattle.ir_graph.proofs.Gathered.{added_with_next_cell}
use Rattle.ir_graph.proofs.hands.add_objects.Goals as goal

pub loop-object-preserved : goal.loop-object-preserved
loop-object-preserved c =
    let before = c.loop-object.invariant in
    record {
      items = c.add_object.ensures.items ∙ before.items;
      form = c.add_object.ensures.form ∙ before.form;
      code = c.add_object.ensures.code ∙ before.code;
      added = added_with_next_cell c.args.flats.now.shared c.loop-object.flats.shared c.add_object.new.self.shared c.loop-object.spots.items
          c.push.new.self.items c.in_ok-spot.spot c.args.objects.now c.object-item.result _ c.loop-object.object-index c.loop-object-test.true
          before.added c.add_object.ensures.grows c.in_ok-push.ensures.items c.in_ok-spot.ensures.within c.in_ok-spot.ensures.found c.object-item.is;
    }
