use Rattle.ir_run_picture.proofs.Lasts.{AreDrawnTo}
use Rattle.ir_run_picture.proofs.drawing.all_drawn.Given as goal

abbrev pub invariant-loop-own : goal.invariant-loop-own
invariant-loop-own l = AreDrawnTo l.fitted l.boxes l.own-index l.drawn.items
