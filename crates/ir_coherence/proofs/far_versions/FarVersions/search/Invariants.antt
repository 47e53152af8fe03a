use Rattle.std.proofs.Common.{◌-◌}
use Rattle.ir_coherence.specs.Counting.{IsBelow, IsFrom}
use Rattle.ir_coherence.proofs.far_versions.FarVersions.search.Given as goal

abbrev pub decreases-halves : goal.decreases-halves
decreases-halves l = l.high - l.low

abbrev pub invariant-halves : goal.invariant-halves
invariant-halves l = record {
  low : IsBelow l.self.versions.items l.number l.low;
  high : IsFrom l.self.versions.items l.number l.high;
}
