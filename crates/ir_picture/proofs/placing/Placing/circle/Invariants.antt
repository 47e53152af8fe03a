use Rattle.std.proofs.Common.{ℕ, ◌<◌}
use Rattle.ir_picture.specs.Placing.{IsOverBox}
use Rattle.ir_picture.proofs.placing.Placing.circle.Given as goal

abbrev pub invariant-loop-thread : goal.invariant-loop-thread
invariant-loop-thread l = (t : ℕ) → t < l.thread → IsOverBox l.self t
