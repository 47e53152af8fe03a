use Rattle.std.proofs.Common.{ℕ, ◌<◌, ◌≡◌, length}
use Rattle.ir_cut.specs.Positions.{cut_of}
use Rattle.ir_cut.specs.Searching.{AreRest}
use Rattle.ir_cut.proofs.falling.leaves_inside.Given as goal

abbrev pub invariant-loop-t : goal.invariant-loop-t
invariant-loop-t l = record {
  size : length l.next.items ≡ l.t;
  each : (u : ℕ) → u < l.t → AreRest l.fitted l.positions u (cut_of l.next.items u);
}
