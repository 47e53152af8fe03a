use Rattle.ir_graph.proofs.Gathered.{IsHandBelow}
use Rattle.ir_graph.proofs.hands.hand_of.Given as goal

abbrev pub invariant-loop-o : goal.invariant-loop-o
invariant-loop-o l = IsHandBelow l.number l.o l.numbers.items
