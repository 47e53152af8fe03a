use Rattle.ir_events.specs.Walk.{AreEventsListed, IsWalkPass}
use Rattle.ir_events.proofs.walk.pass.Given as goal

abbrev pub invariant-loop-t : goal.invariant-loop-t
invariant-loop-t l = record {
  passed : IsWalkPass l.fitted l.ends l.t l.fn.state l.state;
  listed : AreEventsListed l.fitted l.state l.lists;
}
