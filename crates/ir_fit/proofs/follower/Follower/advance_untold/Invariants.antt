use Rattle.std.proofs.Common.{◌≡◌}
use Rattle.ir_fit.specs.Follower.{all_ahead, FollowerGoesOn, IsSized}
use Rattle.ir_fit.proofs.follower.Follower.advance_untold.Given as goal

abbrev pub invariant-steps : goal.invariant-steps
invariant-steps l = record {
  goes : FollowerGoesOn l.fn.self.trace l.fn.self.flat l.fn.self.places.items l.self.flat l.self.places.items;
  trace : l.self.trace ≡ l.fn.self.trace;
  sized : IsSized l.self;
}

abbrev pub decreases-steps : goal.decreases-steps
decreases-steps l = all_ahead l.self.trace l.self.flat
