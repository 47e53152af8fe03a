use Rattle.std.proofs.Common.{ltb, rules}
use Rattle.std.proofs.lemmas.List.Sorted.{IsPartitionPoint-from_clause, IsPartitionedBy-ltb}
use Rattle.ir_fit.specs.declared.leave.Leave.{Leave}
use Rattle.ir_opened.proofs.Leaves.{partition_by_position}
use Rattle.ir_opened.proofs.positions.count_below.Goals as goal

pub returns-clause-point : goal.returns-clause-point
returns-clause-point c =
    partition_by_position c.args.leaves.now c.args.from c.partition_point.result
    (IsPartitionPoint-from_clause (λ (y : Leave). ltb y.position c.args.from) c.args.leaves.now _ c.partition_point.ensures.partitioned
    (IsPartitionedBy-ltb (λ (p : Leave). p.position) c.args.leaves.now c.args.from c.requires) (λ a r q k. search rules))
