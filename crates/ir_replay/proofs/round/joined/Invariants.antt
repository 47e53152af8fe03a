use Rattle.std.proofs.Common.{◌≡◌, ◌+◌, ◌≤◌, ◌++◌, [], length}
use Rattle.std.specs.List.{AllByRecursion}
use Rattle.std.specs.Prelude.{vec_capacity}
use Rattle.ir_replay.specs.Rounds.{backwards, round_threads, views_of, IsOfTable}
use Rattle.ir_replay.proofs.round.joined.Given as goal

abbrev pub invariant-workers : goal.invariant-workers
invariant-workers l = record {
  table : l.all.table_id ≡ l.weave.table.shared.table_id;
  slots : l.all.me.1 ≡ [];
  views : l.all.me.0 ++ views_of l.workers.items ≡ views_of l.fn.workers.items;
  threads : l.threads.items ++ backwards (round_threads l.workers.items) ≡ backwards (round_threads l.fn.workers.items);
  room : length l.threads.items + length l.workers.items ≤ vec_capacity l.threads;
  seats : AllByRecursion (IsOfTable l.weave.table.shared.table_id) l.workers.items;
}

abbrev pub decreases-workers : goal.decreases-workers
decreases-workers l = length l.workers.items
