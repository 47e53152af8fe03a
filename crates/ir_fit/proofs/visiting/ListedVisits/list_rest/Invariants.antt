use Rattle.std.proofs.Common.{ℕ, ◌<◌, ◌≤◌}
use Rattle.std.specs.List.{slice_index_or}
use Rattle.ir_fit.specs.PartlyListed.{count_of, AreListed}
use Rattle.ir_fit.proofs.visiting.ListedVisits.list_rest.Given as goal

abbrev pub invariant-loop-t : goal.invariant-loop-t
invariant-loop-t l = record {
  listed : AreListed l.run l.self.counts.items l.self.visits;
  all : (u : ℕ) → u < l.t → count_of l.run u ≤ slice_index_or l.self.counts.items u 0;
}
