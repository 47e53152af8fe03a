use Rattle.std.proofs.Common.{◌≡◌}
use Rattle.ir_fit.specs.Follower.{all_ahead, FollowerGoesOn, IsFollower, IsSized}
use Rattle.ir_fit.specs.Passed.{ArePassed}
use Rattle.ir_image.specs.Guest.{Guest}
use Rattle.ir_fit.proofs.follower.Follower.follow.Given as goal

abbrev pub invariant-moves : goal.invariant-moves
invariant-moves g l = record {
  goes : FollowerGoesOn l.fn.self.trace l.fn.self.flat l.fn.self.places.items l.self.flat l.self.places.items;
  trace : l.self.trace ≡ l.fn.self.trace;
  sized : IsSized l.self;
  passed : (guest : Guest) → IsFollower guest l.fn.self.trace l.fn.self.flat l.fn.self.places.items
      → ArePassed guest l.fn.self.trace l.fn.passing.states.items → ArePassed guest l.fn.self.trace l.passing.states.items;
}

abbrev pub decreases-moves : goal.decreases-moves
decreases-moves g l = all_ahead l.self.trace l.self.flat
