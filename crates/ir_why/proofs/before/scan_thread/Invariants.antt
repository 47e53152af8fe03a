use Rattle.std.proofs.Common.{◌≡◌, ◌<◌, ◌-◌, true, false, length, slice_index_or}
use Rattle.ir_trace.specs.Recorded.{recorded_thread}
use Rattle.ir_why.specs.Tables.{IsGathered, HaveRisen}
use Rattle.ir_why.proofs.before.scan_thread.Given as goal

-- the events that aren't scanned
abbrev pub decreases-loop-moved : goal.decreases-loop-moved
decreases-loop-moved l = length (recorded_thread l.trace l.thread).events - slice_index_or l.past.scanned.items l.thread 0

abbrev pub invariant-loop-moved : goal.invariant-loop-moved
invariant-loop-moved l = record {
  of : l.past.of ≡ l.fn.past.of;
  gathered : IsGathered l.trace l.past.of.thread l.past.of.event l.past.counts.items l.past.scanned.items;
  risen : HaveRisen l.fn.past.scanned.items l.past.scanned.items;
  more : l.moved ≡ true → slice_index_or l.fn.past.scanned.items l.thread 0 < slice_index_or l.past.scanned.items l.thread 0;
  none : l.moved ≡ false → l.past ≡ l.fn.past;
}
