use Rattle.std.proofs.Common.{◌≡◌, ℕ, ◌<◌, length}
use Rattle.ir_trace.specs.Recorded.{recorded_thread}
use Rattle.ir_cut.specs.Positions.{cut_of}
use Rattle.ir_hits.proofs.stepping.last_cut.Given as goal

abbrev pub invariant-loop-t : goal.invariant-loop-t
invariant-loop-t l = record {
  size : length l.positions.items ≡ l.t;
  steps : (u : ℕ) → u < l.t → cut_of l.positions.items u ≡ (recorded_thread l.fitted.recorded u).steps;
}
