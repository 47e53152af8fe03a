use Rattle.ir_graph.proofs.Ended.{AreEnded}
use Rattle.ir_graph.proofs.marks.done_states.Given as goal

abbrev pub invariant-loop-v : goal.invariant-loop-v
invariant-loop-v l = AreEnded l.flats.items l.v l.done.items
