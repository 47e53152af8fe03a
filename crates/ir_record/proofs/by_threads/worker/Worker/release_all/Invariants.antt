use Rattle.std.proofs.Common.{◌≡◌, ◌<◌, ◌≤◌, ℕ, length, None}
use Rattle.ir_thread.specs.State.{held_at}
use Rattle.ir_crew.specs.Plays.{IsAlone, history, inside_by}
use Rattle.ir_record.proofs.by_threads.worker.Worker.release_all.Given as goal

abbrev pub invariant-loop-below : goal.invariant-loop-below
invariant-loop-below g l = record {
  table : l.self.seat.table_id ≡ l.fn.self.seat.table_id;
  world : l.self.world ≡ l.fn.self.world;
  thread : l.self.thread ≡ l.fn.self.thread;
  alone : IsAlone l.self.seat.me.0;
  low : l.below ≤ length l.fn.self.thread.held;
  inside : (o : ℕ) → o < l.below → inside_by o (history l.self.seat.me.0) ≡ held_at l.fn.self.thread.held o;
  outside : (o : ℕ) → l.below ≤ o → inside_by o (history l.self.seat.me.0) ≡ None;
}

abbrev pub decreases-loop-below : goal.decreases-loop-below
decreases-loop-below g l = l.below
