use Rattle.std.proofs.Common.{cond, eqb}
use Rattle.std.proofs.lemmas.List.Sorted.{IsNonDecreasingBy-from_sort, sum_by-IsPermutation}
use Rattle.ir_coherence.proofs.far_versions.FarVersions.sort.Goals as goal

pub returns-in_ok-resize-clause-sorted : goal.returns-in_ok-resize-clause-sorted
returns-in_ok-resize-clause-sorted c = IsNonDecreasingBy-from_sort (λ x. x) c.sort_unstable.new.self.items c.sort_unstable.ensures.sorted

pub returns-in_ok-resize-clause-same : goal.returns-in_ok-resize-clause-same
returns-in_ok-resize-clause-same c = λ v. sum_by-IsPermutation (λ w. cond (eqb w v) 1 0) c.args.self.now.versions.items
    c.sort_unstable.new.self.items c.sort_unstable.ensures.permutation
