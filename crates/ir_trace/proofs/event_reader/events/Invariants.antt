use Rattle.std.proofs.Common.{◌≡◌, ◌≤◌, ◌+◌, ◌*◌, ◌-◌, ◌/◌, length, min}
use Rattle.ir_bytes.specs.Reading.{fields_at}
use Rattle.ir_trace.specs.Recorded.{event_reading}
use Rattle.ir_trace.specs.Results.{shortest}
use Rattle.ir_bytes.proofs.CallerLemmas.{with_prefix}
use Rattle.ir_trace.proofs.event_reader.events.Given as goal

abbrev pub invariant-loop : goal.invariant-loop
invariant-loop l = record {
  emitted : with_prefix l.log.events (fields_at (event_reading l.profile l.objects) (l.count - l.counter) l.rest) ≡ fields_at (event_reading l.profile l.objects) l.count
      l.bytes;
  pushed : length l.log.events ≡ l.counter;
  room : l.log.room ≡ min l.count (length l.bytes / shortest l.profile);
  taken : l.counter * shortest l.profile + length l.rest ≤ length l.bytes;
}
