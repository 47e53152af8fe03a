use Rattle.std.proofs.Common.{ℕ, ◌-◌, length}
use Rattle.ir_weave.specs.Standing.{flat_in, positions}
use Rattle.ir_stale_run.specs.Watch.{IsWatch, IsWatchedWrite}
use Rattle.ir_stale_run.proofs.opening.open_due.Given as goal

abbrev pub invariant-due : goal.invariant-due
invariant-due l = record {
  watch : IsWatch l.guide.copies l.guide.route.fitted.now l.guide.rows.now l.t (positions (flat_in l.guide.route.fitted.now l.state) l.t) l.watch;
  watched : (r : ℕ) → IsWatchedWrite l.fn.watch r → IsWatchedWrite l.watch r;
}

abbrev pub decreases-due : goal.decreases-due
decreases-due l = length l.watch.spans.items - l.watch.next
