use Rattle.std.proofs.Common.{◌≡◌, ◌<◌, ℕ, true, false, length, slice_index_or}
use Rattle.ir_why.specs.Tables.{IsGathered, HaveRisen}
use Rattle.ir_why.proofs.before.pass.Given as goal

abbrev pub invariant-loop-thread : goal.invariant-loop-thread
invariant-loop-thread l = record {
  of : l.past.of ≡ l.fn.past.of;
  gathered : IsGathered l.trace l.past.of.thread l.past.of.event l.past.counts.items l.past.scanned.items;
  risen : HaveRisen l.fn.past.scanned.items l.past.scanned.items;
  more : l.moved ≡ true → (u : ℕ) × (u < length l.trace.threads) × (slice_index_or l.fn.past.scanned.items u 0 < slice_index_or l.past.scanned.items u 0);
  none : l.moved ≡ false → (u : ℕ) → u < l.thread → slice_index_or l.past.scanned.items u 0 ≡ slice_index_or l.past.counts.items u 0;
}
