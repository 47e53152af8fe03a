use Rattle.std.proofs.Common.{◌≡◌, length}
use Rattle.ir_weave.specs.Standing.{flat_in, positions}
use Rattle.ir_events.specs.Walk.{IsOnWalk, IsFurther, IsListedEvent}
use Rattle.ir_events.proofs.visit.visit_thread.Given as goal

abbrev pub invariant-loop-i : goal.invariant-loop-i
invariant-loop-i l = record {
  way : IsOnWalk l.fitted l.ends l.state;
  further : IsFurther l.fitted l.t l.fn.state l.state;
  size : length l.list ≡ l.i;
  listed : IsListedEvent l.fitted l.t (positions (flat_in l.fitted l.state) l.t) l.list;
}
