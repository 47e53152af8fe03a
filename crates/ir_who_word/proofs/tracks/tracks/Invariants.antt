use Rattle.std.proofs.Common.{◌≡◌, length}
use Rattle.ir_who_word.specs.Track.{AreTracksBuilt}
use Rattle.ir_who_word.proofs.tracks.tracks.Given as goal

abbrev pub invariant-loop-row : goal.invariant-loop-row
invariant-loop-row l = record {
  size : length l.tracks.items ≡ length l.guide.route.fitted.now.guest.entries;
  built : AreTracksBuilt l.guide.route.fitted.now l.guide.rows.now l.guide.word l.row l.tracks.items;
}
