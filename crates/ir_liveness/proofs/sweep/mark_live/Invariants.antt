use Rattle.std.proofs.Common.{◌≡◌, length}
use Rattle.ir_liveness.specs.Marks.{AreMarksLive, unmarked}
use Rattle.ir_liveness.proofs.sweep.mark_live.Given as goal

abbrev pub invariant-sweeps : goal.invariant-sweeps
invariant-sweeps l = record {
  size : length l.marks ≡ length l.fn.marks;
  live : AreMarksLive l.code l.marks;
}

abbrev pub decreases-sweeps : goal.decreases-sweeps
decreases-sweeps l = unmarked l.marks
