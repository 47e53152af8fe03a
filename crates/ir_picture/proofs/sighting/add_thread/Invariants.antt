use Rattle.std.proofs.Common.{◌≡◌, length}
use Rattle.ir_picture.specs.Seeing.{HoldsEntries, SightsBefore}
use Rattle.ir_picture.proofs.sighting.add_thread.Given as goal

abbrev pub invariant-loop-event : goal.invariant-loop-event
invariant-loop-event l = record {
  table : length l.last.items ≡ l.trace.objects;
  holds : HoldsEntries l.trace l.thread l.event l.last.items;
  sights : SightsBefore l.trace l.boxes l.thread l.event l.sights.items;
}
