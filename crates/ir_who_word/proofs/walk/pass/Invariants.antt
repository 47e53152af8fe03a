use Rattle.std.proofs.Common.{◌≡◌, length}
use Rattle.ir_events.specs.Walk.{IsWalkPass}
use Rattle.ir_who_word.specs.Track.{AreTracked}
use Rattle.ir_who_word.proofs.walk.pass.Given as goal

abbrev pub invariant-loop-t : goal.invariant-loop-t
invariant-loop-t l = record {
  passed : IsWalkPass l.guide.route.fitted.now l.guide.route.ends.now l.t l.fn.state l.state;
  tracks : length l.tracks ≡ length l.fn.tracks;
  size : length l.words ≡ length l.fn.words;
  tracked : AreTracked l.guide.route.fitted.now l.guide.rows.now l.guide.word l.state l.tracks l.words;
}
