use Rattle.std.proofs.Common.{◌≡◌, ◌⊎◌, ◌-◌, ℕ}
use Rattle.std.specs.Prelude.{Some, slice_get}
use Rattle.std.specs.List.{slice_index_or}
use Rattle.ir_cut.specs.Positions.{cut_of}
use Rattle.ir_weave.specs.Standing.{flat_in, positions}
use Rattle.ir_events.specs.Walk.{IsOnWalk, IsFurther}
use Rattle.ir_who.specs.declared.version.Version.{Version}
use Rattle.ir_who_word.specs.Words.{IsWorded, unread}
use Rattle.ir_who_word.specs.Track.{IsWordTrack, IsTrackPending, AddsWords}
use Rattle.ir_who_word.proofs.visit.visit_thread.Given as goal

abbrev pub invariant-stretches : goal.invariant-stretches
invariant-stretches l = record {
  way : IsOnWalk l.guide.route.fitted.now l.guide.route.ends.now l.state;
  further : IsFurther l.guide.route.fitted.now l.t l.fn.state l.state;
  track : IsWordTrack l.guide.route.fitted.now l.guide.rows.now l.guide.word l.t (positions (flat_in l.guide.route.fitted.now l.state) l.t) l.track;
  adds : AddsWords l.guide.route.fitted.now l.guide.rows.now l.guide.word l.fn.words l.words;
  found : (r : ℕ) (x : Version) → slice_get l.guide.rows.now r ≡ Some x → IsTrackPending l.fn.track r
      → IsTrackPending l.track r ⊎ IsWorded l.guide.route.fitted.now l.guide.word x (slice_index_or l.words r unread);
}

abbrev pub decreases-stretches : goal.decreases-stretches
decreases-stretches l = cut_of l.guide.route.ends.now l.t - positions (flat_in l.guide.route.fitted.now l.state) l.t
