use Rattle.std.proofs.Common.{◌≡◌, ℕ, List, length}
use Rattle.ir_cut.specs.Positions.{EachRun}
use Rattle.ir_cut.specs.Searching.{AreLeaves, Falling, leaves_left}
use Rattle.ir_cut.proofs.falling.fall.Given as goal

abbrev pub decreases-leaves : goal.decreases-leaves
decreases-leaves l = leaves_left l.next.items

abbrev pub invariant-leaves : goal.invariant-leaves
invariant-leaves l = record {
  size : length l.positions.items ≡ length l.fn.positions.items;
  each : AreLeaves l.fitted l.next.items;
  falls : (ps : List ℕ) (u k : ℕ) → EachRun l.fitted (Falling l.fitted ps u k l.fn.positions.items l.fn.next.items)
      → EachRun l.fitted (Falling l.fitted ps u k l.positions.items l.next.items);
}
