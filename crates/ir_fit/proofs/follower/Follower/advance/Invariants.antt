use Rattle.std.proofs.Common.{◌≡◌}
use Rattle.ir_fit.specs.Follower.{all_ahead, FollowerGoesOn, IsSized}
use Rattle.ir_fit.proofs.follower.Follower.advance.Given as goal

abbrev pub invariant-told : goal.invariant-told
invariant-told g l = record {
  goes : FollowerGoesOn l.fn.self.trace l.fn.self.flat l.fn.self.places.items l.self.flat l.self.places.items;
  trace : l.self.trace ≡ l.fn.self.trace;
  sized : IsSized l.self;
}

abbrev pub decreases-told : goal.decreases-told
decreases-told g l = all_ahead l.self.trace l.self.flat
