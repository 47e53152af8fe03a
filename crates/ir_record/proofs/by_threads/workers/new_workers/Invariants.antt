use Rattle.std.proofs.Common.{◌≡◌, ◌+◌, ◌++◌, map, length}
use Rattle.std.specs.Vec.Iter.{into_iter_items, into_iter_len}
use Rattle.atomic_table.specs.Seated.{TableId}
use Rattle.ir_crew.specs.Ends.{AreCrewSeats}
use Rattle.ir_record.specs.Threads.{AreNew}
use Rattle.ir_record.proofs.by_threads.workers.new_workers.Given as goal

abbrev pub invariant-loop-world : goal.invariant-loop-world
invariant-loop-world g l = record {
  parts : l.yielded ++ into_iter_items l.world-iterator ≡ l.fn.worlds.items;
  size : into_iter_len l.world-iterator ≡ length (into_iter_items l.world-iterator);
  worlds : map (λ w. w.world) l.made.items ≡ l.yielded;
  left : length l.seats.items + length l.made.items ≡ length l.image.entries;
  new : (id : TableId) → AreCrewSeats id 0 l.fn.seats.items → AreCrewSeats id (length l.made.items) l.seats.items
      × AreNew l.image l.budget l.profile id 0 l.made.items;
}
