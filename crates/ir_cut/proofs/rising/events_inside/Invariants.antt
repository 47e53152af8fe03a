use Rattle.std.proofs.Common.{ℕ, ◌<◌, ◌≡◌, length}
use Rattle.ir_cut.specs.Positions.{cut_of}
use Rattle.ir_cut.specs.Searching.{AreFirst}
use Rattle.ir_cut.proofs.rising.events_inside.Given as goal

abbrev pub invariant-loop-t : goal.invariant-loop-t
invariant-loop-t l = record {
  size : length l.next.items ≡ l.t;
  each : (u : ℕ) → u < l.t → AreFirst l.fitted l.positions u (cut_of l.next.items u);
}
