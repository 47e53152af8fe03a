use Rattle.std.proofs.Common.{◌≡◌, ◌⊎◌, ◌-◌, ℕ, length}
use Rattle.std.specs.Prelude.{Some, slice_get}
use Rattle.std.specs.List.{slice_index_or}
use Rattle.ir_weave.specs.Standing.{flat_in, positions}
use Rattle.ir_who.specs.declared.version.Version.{Version}
use Rattle.ir_who_word.specs.Words.{IsWorded, unread}
use Rattle.ir_who_word.specs.Track.{IsWordTrack, IsTrackPending, AddsWords}
use Rattle.ir_who_word.proofs.noting.note_due.Given as goal

abbrev pub invariant-due : goal.invariant-due
invariant-due l = record {
  track : IsWordTrack l.guide.route.fitted.now l.guide.rows.now l.guide.word l.t (positions (flat_in l.guide.route.fitted.now l.state) l.t) l.track;
  adds : AddsWords l.guide.route.fitted.now l.guide.rows.now l.guide.word l.fn.words l.words;
  found : (r : ℕ) (x : Version) → slice_get l.guide.rows.now r ≡ Some x → IsTrackPending l.fn.track r
      → IsTrackPending l.track r ⊎ IsWorded l.guide.route.fitted.now l.guide.word x (slice_index_or l.words r unread);
}

abbrev pub decreases-due : goal.decreases-due
decreases-due l = length l.track.holds.items - l.track.next
