use Rattle.std.proofs.Common.{◌≡◌, ◌++◌}
use Rattle.std.specs.List.{AllByRecursion}
use Rattle.ir_record.specs.Threads.{IsSeatOf, views_of}
use Rattle.ir_record.proofs.by_threads.results.joined.Given as goal

abbrev pub invariant-loop-seat : goal.invariant-loop-seat
invariant-loop-seat l = record {
  all : IsSeatOf l.crew.table.shared.table_id l.all;
  views : views_of l.seats.items ++ l.all.me.0 ≡ views_of l.fn.seats.items;
  seats : AllByRecursion (IsSeatOf l.crew.table.shared.table_id) l.seats.items;
}

abbrev pub decreases-loop-seat : goal.decreases-loop-seat
decreases-loop-seat l = goal.left-loop-seat l
