use Rattle.std.proofs.Common.{◌≡◌, ◌<◌, ◌≤◌, ℕ, length}
use Rattle.std.specs.Prelude.{Some, slice_get}
use Rattle.std.specs.List.{slice_index_or}
use Rattle.ir_weave.specs.Standing.{flat_in, positions}
use Rattle.ir_past.specs.declared.stale_write.StaleWrite.{StaleWrite}
use Rattle.ir_stale_run.specs.declared.found.Found.TheVariants.{Unknown}
use Rattle.ir_stale_run.specs.Watch.{IsFoundAs, IsWatch, IsWatchFound}
use Rattle.ir_stale_run.specs.declared.watch.Watch.{Watch}
use Rattle.ir_stale_run.proofs.walk.close_all.Given as goal

abbrev pub invariant-loop-t : goal.invariant-loop-t
invariant-loop-t l = record {
  watches : length l.watches ≡ length l.fn.watches;
  size : length l.rests ≡ length l.fn.rests;
  done : (r : ℕ) (x : StaleWrite) → slice_get l.guide.rows.now r ≡ Some x → x.thread < l.t
      → IsFoundAs l.guide.copies l.guide.route.fitted.now x (slice_index_or l.rests r Unknown);
  others : (u : ℕ) (d : Watch) → l.t ≤ u → u < length l.watches
      → IsWatch l.guide.copies l.guide.route.fitted.now l.guide.rows.now u (positions (flat_in l.guide.route.fitted.now l.state) u) (slice_index_or l.watches u d)
      × IsWatchFound l.guide.copies l.guide.route.fitted.now l.guide.rows.now l.rests u (slice_index_or l.watches u d);
}
