use Rattle.std.proofs.Common.{◌≡◌}
use Rattle.ir_timeline.proofs.Ends.{last_positions}
use Rattle.ir_timeline.proofs.cuts.last_cut.Given as goal

abbrev pub invariant-loop-t : goal.invariant-loop-t
invariant-loop-t l = l.positions.items ≡ last_positions l.fitted 0 l.t
