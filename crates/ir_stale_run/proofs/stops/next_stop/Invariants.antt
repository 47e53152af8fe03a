use Rattle.std.proofs.Common.{ℕ, ◌≤◌, ◌<◌, length}
use Rattle.std.specs.List.{slice_index_or}
use Rattle.ir_stale_run.specs.declared.span.Span.{Span}
use Rattle.ir_stale_run.specs.declared.kept.Open.{Open}
use Rattle.ir_stale_run.proofs.stops.next_stop.Given as goal

abbrev pub invariant-loop-i : goal.invariant-loop-i
invariant-loop-i l = record {
  within : l.stop ≤ l.end;
  ahead : l.k ≤ l.stop;
  last : l.stop ≤ l.k → l.end ≤ l.k;
  pending : (i : ℕ) (d : Span) → l.watch.next ≤ i → i < length l.watch.spans.items → l.stop ≤ (slice_index_or l.watch.spans.items i d).read;
  ends : (i : ℕ) (d : Open) → i < l.i → l.stop ≤ (slice_index_or l.watch.opened.items i d).span.end;
  writes : (i : ℕ) (d : Open) → i < l.i → l.k < (slice_index_or l.watch.opened.items i d).span.write
      → l.stop ≤ (slice_index_or l.watch.opened.items i d).span.write;
}
