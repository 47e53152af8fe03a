use Rattle.std.proofs.Common.{◌≡◌, ℕ, ◌<◌, Some}
use Rattle.std.specs.Prelude.{slice_get}
use Rattle.ir_coherence.specs.Counting.{SameCounts, IsSettled}
use Rattle.ir_coherence.specs.declared.entry_counts.ObjectCounts.{ObjectCounts}
use Rattle.ir_coherence.proofs.entry_counts.EntryCounts.settle.Given as goal

abbrev pub invariant-loop-number : goal.invariant-loop-number
invariant-loop-number l = record {
  same : SameCounts l.fn.self l.self;
  settled : (o : ℕ) (x : ObjectCounts) → o < l.number → slice_get l.self.objects.items o ≡ Some x → IsSettled x.reads × IsSettled x.writes;
}
