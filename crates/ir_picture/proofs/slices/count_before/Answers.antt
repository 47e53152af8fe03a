use Rattle.std.proofs.Common.{rules}
use Rattle.std.proofs.lemmas.List.Sorted.{IsPartitionPoint-from_clause}
use Rattle.ir_picture.specs.Progress.{comes_before}
use Rattle.ir_picture.proofs.StaleReads.{stale_split_by_event, before_below_partition, not_before_partition}
use Rattle.ir_picture.proofs.slices.count_before.Goals as goal

pub returns-clause-before : goal.returns-clause-before
returns-clause-before c =
    let t = c.args.own.now.thread in
    let i = c.args.own.now.event in
    before_below_partition t i c.partition_point.result c.args.stale.now
    (IsPartitionPoint-from_clause (comes_before t i) c.args.stale.now c.partition_point.result c.partition_point.ensures.partitioned
    (stale_split_by_event t i c.args.stale.now c.requires) (λ a r q k. search rules))

pub returns-clause-rest : goal.returns-clause-rest
returns-clause-rest c =
    let t = c.args.own.now.thread in
    let i = c.args.own.now.event in
    not_before_partition t i c.partition_point.result c.args.stale.now
    (IsPartitionPoint-from_clause (comes_before t i) c.args.stale.now c.partition_point.result c.partition_point.ensures.partitioned
    (stale_split_by_event t i c.args.stale.now c.requires) (λ a r q k. search rules))
