use Rattle.std.proofs.Common.{◌≡◌, ◌+◌, ◌≤◌, ◌++◌, map, length}
use Rattle.std.specs.List.{AllByRecursion}
use Rattle.std.specs.Prelude.{vec_capacity}
use Rattle.std.specs.Vec.Iter.{into_iter_items, into_iter_len}
use Rattle.ir_trace.specs.Bounds.{IsRecordedThread}
use Rattle.ir_record.specs.Threads.{AreTraces, AreOutputBuffers}
use Rattle.ir_record.proofs.by_threads.results.gathered.Given as goal

abbrev pub invariant-loop-worker : goal.invariant-loop-worker
invariant-loop-worker g l = record {
  parts : l.yielded ++ into_iter_items l.worker-iterator ≡ l.fn.workers.items;
  size : into_iter_len l.worker-iterator ≡ length (into_iter_items l.worker-iterator);
  seats : l.seats.items ≡ map (λ w. w.seat) l.yielded;
  traces : AreTraces l.yielded l.traces.items;
  fit : AllByRecursion (IsRecordedThread l.profile l.objects) l.traces.items;
  bytes : map (λ x. x.bytes.items) l.each.items ≡ map (λ w. w.thread.output) l.yielded;
  worlds : map (λ x. x.world) l.each.items ≡ map (λ w. w.world) l.yielded;
  seat_room : length l.seats.items + length (into_iter_items l.worker-iterator) ≤ vec_capacity l.seats;
  trace_room : length l.traces.items + length (into_iter_items l.worker-iterator) ≤ vec_capacity l.traces;
  each_room : length l.each.items + length (into_iter_items l.worker-iterator) ≤ vec_capacity l.each;
  rooms : AreOutputBuffers (length (into_iter_items l.worker-iterator)) l.rooms.items;
}
