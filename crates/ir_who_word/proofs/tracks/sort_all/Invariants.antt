use Rattle.std.proofs.Common.{◌≡◌, ◌<◌, ◌≤◌, ℕ, length}
use Rattle.std.specs.List.{slice_index_or}
use Rattle.ir_who_word.specs.Track.{IsTrackSorted}
use Rattle.ir_who_word.specs.declared.track.Track.{Track}
use Rattle.ir_who_word.proofs.tracks.sort_all.Given as goal

abbrev pub invariant-loop-t : goal.invariant-loop-t
invariant-loop-t l = record {
  size : length l.tracks ≡ length l.fn.tracks;
  sorted : (u : ℕ) (d : Track) → u < l.t → IsTrackSorted (slice_index_or l.fn.tracks u d) (slice_index_or l.tracks u d);
  others : (u : ℕ) (d : Track) → l.t ≤ u → slice_index_or l.tracks u d ≡ slice_index_or l.fn.tracks u d;
}
