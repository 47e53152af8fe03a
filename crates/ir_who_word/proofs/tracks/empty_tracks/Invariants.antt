use Rattle.std.proofs.Common.{◌≡◌, length}
use Rattle.ir_who_word.specs.Track.{AreTracksBuilt}
use Rattle.ir_who_word.proofs.tracks.empty_tracks.Given as goal

abbrev pub invariant-loop : goal.invariant-loop
invariant-loop l = record {
  size : length l.tracks.items ≡ l.counter;
  built : AreTracksBuilt l.guide.route.fitted.now l.guide.rows.now l.guide.word 0 l.tracks.items;
}
