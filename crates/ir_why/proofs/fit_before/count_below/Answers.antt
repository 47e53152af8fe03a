use Rattle.std.proofs.Common.{ltb, rules, ℕ}
use Rattle.std.proofs.lemmas.List.Sorted.{IsPartitionPoint-from_clause, IsPartitionedBy-ltb}
use Rattle.ir_why.proofs.Waited.{partition_by_step_test}
use Rattle.ir_why.proofs.fit_before.count_below.Goals as goal

pub returns-clause-point : goal.returns-clause-point
returns-clause-point c = partition_by_step_test c.args.steps.now c.args.step c.partition_point.result
    (IsPartitionPoint-from_clause (λ (i : ℕ). ltb i c.args.step) c.args.steps.now c.partition_point.result
    c.partition_point.ensures.partitioned (IsPartitionedBy-ltb (λ (i : ℕ). i) c.args.steps.now c.args.step c.requires)
    (λ a r q k. search rules))
