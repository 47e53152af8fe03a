use Rattle.std.proofs.Common.{ltb, rules}
use Rattle.std.proofs.lemmas.List.Sorted.{IsPartitionPoint-from_clause, IsPartitionedBy-ltb}
use Rattle.ir_fit.specs.declared.leave.Leave.{Leave}
use Rattle.ir_cut.proofs.Stepping.{after_partition_not_below}
use Rattle.ir_cut.proofs.falling.count_before.Goals as goal

pub returns-clause-rest : goal.returns-clause-rest
returns-clause-rest c = after_partition_not_below c.args.leaves.now c.partition_point.result c.args.position
    (IsPartitionPoint-from_clause (λ (l : Leave). ltb l.position c.args.position) c.args.leaves.now c.partition_point.result
    c.partition_point.ensures.partitioned (IsPartitionedBy-ltb (λ (l : Leave). l.position) c.args.leaves.now c.args.position c.requires)
    (λ a r q k. search rules))
