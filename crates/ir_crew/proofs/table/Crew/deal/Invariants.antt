use Rattle.std.proofs.Common.{◌≡◌, ◌+◌, ℕ, length, []}
use Rattle.ir_crew.specs.Ends.{AreCrewSeats}
use Rattle.ir_crew.specs.Rule.{crew_tracks_from}
use Rattle.ir_crew.proofs.table.Crew.deal.Given as goal

abbrev pub invariant-loop-thread : goal.invariant-loop-thread
invariant-loop-thread l = record {
  count : length l.seats.items + 1 ≡ l._thread;
  table : l.seat.table_id ≡ l.self.table.shared.table_id;
  me : (m : ℕ) × (length l.seats.items + m ≡ l.threads)
      × (l.seat.me ≡ (crew_tracks_from (length l.seats.items) m, []));
  seats : AreCrewSeats l.self.table.shared.table_id 0 l.seats.items;
}
