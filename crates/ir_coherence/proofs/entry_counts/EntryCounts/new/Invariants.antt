use Rattle.std.proofs.Common.{◌≡◌, ℕ, vec_len}
use Rattle.ir_coherence.specs.Counting.{count_at}
use Rattle.ir_coherence.specs.declared.entry_counts.ObjectCounts.{ObjectCounts}
use Rattle.ir_coherence.proofs.Tables.{value_at_place}
use Rattle.ir_coherence.proofs.entry_counts.EntryCounts.new.Given as goal

abbrev pub invariant-loop-limit : goal.invariant-loop-limit
invariant-loop-limit l = record {
  objects : vec_len l.objects ≡ l.limit-index;
  reads : (o v : ℕ) → value_at_place (λ (x : ObjectCounts). count_at x.reads v) l.objects.items o ≡ 0;
  writes : (o v : ℕ) → value_at_place (λ (x : ObjectCounts). count_at x.writes v) l.objects.items o ≡ 0;
}
