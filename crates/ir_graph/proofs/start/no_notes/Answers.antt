use Rattle.std.proofs.Common.{◌≡◌, None, [], ◌∷◌, length, length-append, sym, ap, subst, arith}
use Rattle.ir_graph.specs.Notes.{noted_in}
use Rattle.ir_graph.proofs.Entries.{none_noted_empty_row}
use Rattle.ir_graph.proofs.start.no_notes.Goals as goal

pub loop-preserved : goal.loop-preserved
loop-preserved c = record {
  free = λ t v less. subst (λ z. noted_in z t v ≡ None) (sym c.in_ok-push.ensures.items)
      (none_noted_empty_row c.loop.rows.items c.new.result c.loop.counter c.loop.invariant.threads c.new.ensures.items c.loop.invariant.free t v less);
  threads =
      let a = ap length c.in_ok-push.ensures.items in let b = length-append c.loop.rows.items (c.new.result ∷ []) in
      let d = c.loop.invariant.threads in omega (arith, a, b, d);
}
