use Rattle.std.proofs.Common.{◌≡◌, ◌<◌, ◌≤◌, ℕ, length}
use Rattle.std.specs.List.{slice_index_or}
use Rattle.ir_weave.specs.Standing.{flat_in, positions}
use Rattle.ir_stale_run.specs.Watch.{IsOpenAt}
use Rattle.ir_stale_run.specs.declared.kept.Open.{Open}
use Rattle.ir_stale_run.proofs.noting.note.Given as goal

abbrev pub invariant-loop-i : goal.invariant-loop-i
invariant-loop-i l = record {
  size : length l.opened ≡ length l.fn.opened;
  done : (j : ℕ) (d : Open) → j < l.i → IsOpenAt l.guide.copies l.guide.route.fitted.now l.guide.rows.now l.t (positions (flat_in l.guide.route.fitted.now l.state) l.t)
      (slice_index_or l.opened j d);
  same : (j : ℕ) (d : Open) → j < l.i → (slice_index_or l.opened j d).span ≡ (slice_index_or l.fn.opened j d).span;
  others : (j : ℕ) (d : Open) → l.i ≤ j → slice_index_or l.opened j d ≡ slice_index_or l.fn.opened j d;
}
