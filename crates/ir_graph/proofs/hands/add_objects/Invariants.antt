use Rattle.std.proofs.Common.{◌≡◌, take}
use Rattle.ir_graph.proofs.Gathered.{AreAdded}
use Rattle.ir_graph.proofs.hands.add_objects.Given as goal

abbrev pub invariant-loop-object : goal.invariant-loop-object
invariant-loop-object l = record {
  items : l.flats.items ≡ l.fn.flats.items;
  form : l.flats.form ≡ l.fn.flats.form;
  code : l.flats.code ≡ l.fn.flats.code;
  added : AreAdded l.fn.flats.shared l.flats.shared l.spots.items (take l.object-index l.objects);
}
