use Rattle.std.proofs.Common.{ℕ, ◌<◌}
use Rattle.ir_fit.specs.Ahead.{IsStoppedAhead}
use Rattle.ir_fit.proofs.follower.Follower.last_look.Given as goal

abbrev pub invariant-loop-t : goal.invariant-loop-t
invariant-loop-t l = (u : ℕ) → u < l.t → IsStoppedAhead l.self.trace l.self.flat u
