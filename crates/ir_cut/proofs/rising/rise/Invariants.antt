use Rattle.std.proofs.Common.{◌≡◌, ℕ, List, length}
use Rattle.ir_cut.specs.Positions.{EachRun}
use Rattle.ir_cut.specs.Searching.{Rising, events_left}
use Rattle.ir_cut.proofs.rising.rise.Given as goal

abbrev pub decreases-events : goal.decreases-events
decreases-events l = events_left l.fitted l.next.items

abbrev pub invariant-events : goal.invariant-events
invariant-events l = record {
  size : length l.positions.items ≡ length l.fn.positions.items;
  each : length l.next.items ≡ length l.fn.next.items;
  rises : (ps : List ℕ) (u k : ℕ) → EachRun l.fitted (Rising l.fitted ps u k l.fn.positions.items l.fn.next.items)
      → EachRun l.fitted (Rising l.fitted ps u k l.positions.items l.next.items);
}
