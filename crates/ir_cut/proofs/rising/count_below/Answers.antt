use Rattle.std.proofs.Common.{ltb, rules, ℕ}
use Rattle.std.proofs.lemmas.List.Sorted.{IsPartitionPoint-from_clause, IsPartitionedBy-ltb}
use Rattle.ir_cut.proofs.Stepping.{before_partition_below}
use Rattle.ir_cut.proofs.rising.count_below.Goals as goal

pub returns : goal.returns
returns c = before_partition_below c.args.places.now c.partition_point.result c.args.position
    (IsPartitionPoint-from_clause (λ (i : ℕ). ltb i c.args.position) c.args.places.now c.partition_point.result
    c.partition_point.ensures.partitioned (IsPartitionedBy-ltb (λ (i : ℕ). i) c.args.places.now c.args.position c.requires)
    (λ a r q k. search rules))
