use Rattle.std.proofs.Common.{◌≡◌}
use Rattle.ir_fit.specs.Follower.{IsSized}
use Rattle.ir_fit.proofs.follower.Follower.ready_step.Given as goal

abbrev pub invariant-loop-t : goal.invariant-loop-t
invariant-loop-t l = record {
  flat : l.self.flat ≡ l.fn.self.flat;
  trace : l.self.trace ≡ l.fn.self.trace;
  places : l.self.places.items ≡ l.fn.self.places.items;
  sized : IsSized l.self;
}
