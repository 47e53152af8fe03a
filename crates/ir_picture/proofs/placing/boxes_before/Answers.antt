use Rattle.std.proofs.Common.{ltb, rules}
use Rattle.std.proofs.lemmas.List.Sorted.{IsPartitionPoint-from_clause, IsPartitionedBy-ltb}
use Rattle.ir_picture.specs.declared.event_box.EventBox.{EventBox}
use Rattle.ir_picture.proofs.Sorted.{apart_threads_sorted, partition_point_is_cut}
use Rattle.ir_picture.proofs.placing.boxes_before.Goals as goal

pub returns : goal.returns
returns c = partition_point_is_cut c.args.boxes.now c.args.thread c.partition_point.result
    (IsPartitionPoint-from_clause (λ (b : EventBox). ltb b.thread c.args.thread) c.args.boxes.now _ c.partition_point.ensures.partitioned
    (IsPartitionedBy-ltb (λ (b : EventBox). b.thread) c.args.boxes.now c.args.thread (apart_threads_sorted c.args.boxes.now c.requires))
    (λ a r q k. search rules))
