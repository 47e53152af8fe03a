use Rattle.std.proofs.Common.{◌≡◌, ℕ, length}
use Rattle.ir_search.specs.Following.{IsNodeOpen, StaysOpen}
use Rattle.ir_search.specs.Ways.{shut, HasMarked}
use Rattle.ir_search.proofs.ways.mark_ways.Given as goal

abbrev pub invariant-sweeps : goal.invariant-sweeps
invariant-sweeps g l = record {
  nodes : length l.marks ≡ length l.fn.marks;
  stays : StaysOpen l.fn.marks l.marks;
  ways : (v : ℕ) → IsNodeOpen l.marks v → HasMarked (g.S.Successors.shape l.graph).noted l.threads l.fn.marks v;
}

abbrev pub decreases-sweeps : goal.decreases-sweeps
decreases-sweeps g l = shut l.marks
