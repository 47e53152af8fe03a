use Rattle.std.proofs.Common.{◌≡◌, length}
use Rattle.ir_weave.specs.Standing.{flat_in}
use Rattle.ir_weave.specs.Stepping.{steps_left}
use Rattle.ir_events.specs.Walk.{IsOnWalk}
use Rattle.ir_who_word.specs.Track.{AreTracked}
use Rattle.ir_who_word.proofs.walk.walk.Given as goal

abbrev pub invariant-passes : goal.invariant-passes
invariant-passes l = record {
  way : IsOnWalk l.guide.route.fitted.now l.guide.route.ends.now l.state;
  tracks : length l.tracks ≡ length l.guide.route.fitted.now.guest.entries;
  size : length l.words ≡ length l.guide.rows.now;
  tracked : AreTracked l.guide.route.fitted.now l.guide.rows.now l.guide.word l.state l.tracks l.words;
}

abbrev pub decreases-passes : goal.decreases-passes
decreases-passes l = steps_left l.guide.route.ends.now (flat_in l.guide.route.fitted.now l.state)
