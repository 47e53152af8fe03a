use Rattle.std.proofs.Common.{◌≡◌, ◌<◌, ◌≤◌, ℕ, length}
use Rattle.std.specs.List.{slice_index_or}
use Rattle.ir_stale_run.specs.Watch.{IsSorted}
use Rattle.ir_stale_run.specs.declared.watch.Watch.{Watch}
use Rattle.ir_stale_run.proofs.watches.sort_all.Given as goal

abbrev pub invariant-loop-t : goal.invariant-loop-t
invariant-loop-t l = record {
  size : length l.watches ≡ length l.fn.watches;
  sorted : (u : ℕ) (d : Watch) → u < l.t → IsSorted (slice_index_or l.fn.watches u d) (slice_index_or l.watches u d);
  others : (u : ℕ) (d : Watch) → l.t ≤ u → slice_index_or l.watches u d ≡ slice_index_or l.fn.watches u d;
}
