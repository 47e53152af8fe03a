use Rattle.std.proofs.Common.{◌≡◌, ◌⊎◌, ◌-◌, ℕ}
use Rattle.std.specs.Prelude.{Some, slice_get}
use Rattle.std.specs.List.{slice_index_or}
use Rattle.ir_cut.specs.Positions.{cut_of}
use Rattle.ir_weave.specs.Standing.{flat_in, positions}
use Rattle.ir_past.specs.declared.stale_write.StaleWrite.{StaleWrite}
use Rattle.ir_events.specs.Walk.{IsOnWalk, IsFurther}
use Rattle.ir_stale_run.specs.declared.found.Found.TheVariants.{Unknown}
use Rattle.ir_stale_run.specs.Watch.{IsFoundAs, IsWatch, IsWatchedWrite, AddsRests}
use Rattle.ir_stale_run.proofs.visit.visit_thread.Given as goal

abbrev pub invariant-stretches : goal.invariant-stretches
invariant-stretches l = record {
  way : IsOnWalk l.guide.route.fitted.now l.guide.route.ends.now l.state;
  further : IsFurther l.guide.route.fitted.now l.t l.fn.state l.state;
  watch : IsWatch l.guide.copies l.guide.route.fitted.now l.guide.rows.now l.t (positions (flat_in l.guide.route.fitted.now l.state) l.t) l.watch;
  adds : AddsRests l.guide.copies l.guide.route.fitted.now l.guide.rows.now l.fn.rests l.rests;
  found : (r : ℕ) (x : StaleWrite) → slice_get l.guide.rows.now r ≡ Some x → IsWatchedWrite l.fn.watch r
      → IsWatchedWrite l.watch r ⊎ IsFoundAs l.guide.copies l.guide.route.fitted.now x (slice_index_or l.rests r Unknown);
}

abbrev pub decreases-stretches : goal.decreases-stretches
decreases-stretches l = cut_of l.guide.route.ends.now l.t - positions (flat_in l.guide.route.fitted.now l.state) l.t
