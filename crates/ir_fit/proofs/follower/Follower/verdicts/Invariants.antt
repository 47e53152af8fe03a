use Rattle.std.proofs.Common.{◌≡◌, length}
use Rattle.ir_fit.specs.Follower.{AreStanding}
use Rattle.ir_fit.proofs.follower.Follower.verdicts.Given as goal

abbrev pub invariant-loop-t : goal.invariant-loop-t
invariant-loop-t l = record {
  size : length l.verdicts.items ≡ l.t;
  stand : AreStanding l.self.trace l.self.flat l.self.places.items l.verdicts.items;
}
