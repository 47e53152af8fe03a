use Rattle.std.proofs.Common.{◌≡◌, length}
use Rattle.ir_hits.specs.Passing.{KeepsMarks, AreBreaksMarked}
use Rattle.ir_hits.proofs.marking.mark_breaks.Given as goal

abbrev pub invariant-loop-i : goal.invariant-loop-i
invariant-loop-i l = record {
  first : AreBreaksMarked l.marks l.t l.points l.i;
  kept : KeepsMarks l.fn.marks l.marks;
  size : length l.marks ≡ length l.fn.marks;
}
