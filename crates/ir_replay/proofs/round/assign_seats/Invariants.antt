use Rattle.std.proofs.Common.{◌≡◌, ◌+◌, ◌≤◌, ◌++◌, length}
use Rattle.std.specs.Prelude.{vec_capacity}
use Rattle.ir_replay.specs.Rounds.{backwards, round_threads, seats_of}
use Rattle.ir_replay.proofs.round.assign_seats.Given as goal

abbrev pub invariant-threads : goal.invariant-threads
invariant-threads l = record {
  counts : length l.seats.items ≡ length l.threads.items;
  held : vec_capacity l.threads ≡ vec_capacity l.fn.threads;
  room : length l.threads.items + length l.workers.items ≤ vec_capacity l.workers;
  threads : l.threads.items ++ backwards (round_threads l.workers.items) ≡ l.fn.threads.items;
  seats : l.seats.items ++ backwards (seats_of l.workers.items) ≡ l.fn.seats.items;
}

abbrev pub decreases-threads : goal.decreases-threads
decreases-threads l = length l.threads.items
