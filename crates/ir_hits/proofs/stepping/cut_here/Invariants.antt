use Rattle.std.proofs.Common.{◌≡◌, ℕ, ◌<◌, length, slice_index_or}
use Rattle.ir_flat.specs.Flat.{idle}
use Rattle.ir_cut.specs.Positions.{cut_of}
use Rattle.ir_hits.proofs.stepping.cut_here.Given as goal

abbrev pub invariant-loop-t : goal.invariant-loop-t
invariant-loop-t l = record {
  size : length l.positions.items ≡ l.t;
  here : (u : ℕ) → u < l.t → cut_of l.positions.items u ≡ (slice_index_or l.threads u idle).steps;
}
