use Rattle.std.proofs.Common.{◌≡◌, length}
use Rattle.ir_weave.specs.Standing.{flat_in}
use Rattle.ir_weave.specs.Stepping.{steps_left}
use Rattle.ir_events.specs.Walk.{IsOnWalk}
use Rattle.ir_stale_run.specs.Watch.{AreWatched}
use Rattle.ir_stale_run.proofs.walk.walk_on.Given as goal

abbrev pub invariant-passes : goal.invariant-passes
invariant-passes l = record {
  way : IsOnWalk l.guide.route.fitted.now l.guide.route.ends.now l.state;
  watches : length l.watches ≡ length l.guide.route.fitted.now.guest.entries;
  size : length l.rests ≡ length l.guide.rows.now;
  watched : AreWatched l.guide.copies l.guide.route.fitted.now l.guide.rows.now l.state l.watches l.rests;
}

abbrev pub decreases-passes : goal.decreases-passes
decreases-passes l = steps_left l.guide.route.ends.now (flat_in l.guide.route.fitted.now l.state)
