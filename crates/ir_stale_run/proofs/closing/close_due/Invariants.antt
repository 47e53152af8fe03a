use Rattle.std.proofs.Common.{◌≡◌, ◌⊎◌, ◌<◌, ◌≤◌, ◌-◌, ℕ, length}
use Rattle.std.specs.Prelude.{Some, slice_get}
use Rattle.std.specs.List.{slice_index_or}
use Rattle.ir_past.specs.declared.stale_write.StaleWrite.{StaleWrite}
use Rattle.ir_stale_run.specs.declared.found.Found.TheVariants.{Unknown}
use Rattle.ir_stale_run.specs.Watch.{IsFoundAs, IsWatch, IsWatchedWrite, AddsRests}
use Rattle.ir_stale_run.specs.declared.kept.Open.{Open}
use Rattle.ir_stale_run.proofs.closing.close_due.Given as goal

abbrev pub invariant-opened : goal.invariant-opened
invariant-opened l = record {
  watch : IsWatch l.guide.copies l.guide.route.fitted.now l.guide.rows.now l.t l.k l.watch;
  ends : (j : ℕ) (d : Open) → j < l.i → l.k < (slice_index_or l.watch.opened.items j d).span.end;
  within : l.i ≤ length l.watch.opened.items;
  spans : l.watch.spans ≡ l.fn.watch.spans;
  next : l.watch.next ≡ l.fn.watch.next;
  adds : AddsRests l.guide.copies l.guide.route.fitted.now l.guide.rows.now l.fn.rests l.rests;
  found : (r : ℕ) (x : StaleWrite) → slice_get l.guide.rows.now r ≡ Some x → IsWatchedWrite l.fn.watch r
      → IsWatchedWrite l.watch r ⊎ IsFoundAs l.guide.copies l.guide.route.fitted.now x (slice_index_or l.rests r Unknown);
}

abbrev pub decreases-opened : goal.decreases-opened
decreases-opened l = length l.watch.opened.items - l.i
