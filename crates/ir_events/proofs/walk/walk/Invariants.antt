use Rattle.std.proofs.Common.{◌≡◌, length}
use Rattle.ir_weave.specs.Standing.{flat_in}
use Rattle.ir_weave.specs.Stepping.{steps_left}
use Rattle.ir_events.specs.Walk.{IsOnWalk, AreEventsListed}
use Rattle.ir_events.proofs.walk.walk.Given as goal

abbrev pub invariant-passes : goal.invariant-passes
invariant-passes l = record {
  way : IsOnWalk l.fitted l.ends l.state;
  size : length l.lists ≡ length l.fitted.guest.entries;
  listed : AreEventsListed l.fitted l.state l.lists;
}

abbrev pub decreases-passes : goal.decreases-passes
decreases-passes l = steps_left l.ends (flat_in l.fitted l.state)
