use Rattle.std.proofs.Common.{◌≡◌, ◌+◌, ℕ, length, []}
use Rattle.ir_weave.specs.Woven.{tracks_from, AreSeats}
use Rattle.ir_weave.proofs.weave.Weave.deal.Given as goal

abbrev pub invariant-loop-thread : goal.invariant-loop-thread
invariant-loop-thread l = record {
  count : length l.seats.items + 1 ≡ l._thread;
  table : l.seat.table_id ≡ l.self.table.shared.table_id;
  me : (m : ℕ) × (length l.seats.items + m ≡ l.count)
      × (l.seat.me ≡ (tracks_from l.self.table.shared.key (length l.seats.items) m, []));
  seats : AreSeats l.self.table.shared.table_id
      l.self.table.shared.key 0 l.seats.items;
}
