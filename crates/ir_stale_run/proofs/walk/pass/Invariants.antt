use Rattle.std.proofs.Common.{◌≡◌, length}
use Rattle.ir_events.specs.Walk.{IsWalkPass}
use Rattle.ir_stale_run.specs.Watch.{AreWatched}
use Rattle.ir_stale_run.proofs.walk.pass.Given as goal

abbrev pub invariant-loop-t : goal.invariant-loop-t
invariant-loop-t l = record {
  passed : IsWalkPass l.guide.route.fitted.now l.guide.route.ends.now l.t l.fn.state l.state;
  watches : length l.watches ≡ length l.fn.watches;
  size : length l.rests ≡ length l.fn.rests;
  watched : AreWatched l.guide.copies l.guide.route.fitted.now l.guide.rows.now l.state l.watches l.rests;
}
