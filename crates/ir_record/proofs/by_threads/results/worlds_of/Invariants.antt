use Rattle.std.proofs.Common.{◌≡◌, ◌+◌, ◌≤◌, ◌++◌, map, length}
use Rattle.std.specs.Prelude.{vec_capacity}
use Rattle.std.specs.Vec.Iter.{into_iter_items, into_iter_len}
use Rattle.ir_record.proofs.by_threads.results.worlds_of.Given as goal

abbrev pub invariant-loop-worker : goal.invariant-loop-worker
invariant-loop-worker g l = record {
  parts : l.yielded ++ into_iter_items l.worker-iterator ≡ l.fn.workers.items;
  size : into_iter_len l.worker-iterator ≡ length (into_iter_items l.worker-iterator);
  worlds : l.worlds.items ≡ map (λ w. w.world) l.yielded;
  room : length l.worlds.items + length (into_iter_items l.worker-iterator) ≤ vec_capacity l.worlds;
}
