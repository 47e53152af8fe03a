use Rattle.std.proofs.Common.{◌≤◌, ◌<◌, ℕ}
use Rattle.std.specs.List.{slice_index_or}
use Rattle.ir_cut.specs.Positions.{cut_of}
use Rattle.ir_flat.specs.Flat.{idle}
use Rattle.ir_events.proofs.walk.are_done.Given as goal

abbrev pub invariant-loop-t : goal.invariant-loop-t
invariant-loop-t l = (u : ℕ) → u < l.t → cut_of l.ends u ≤ (slice_index_or l.threads u idle).steps
