use Rattle.std.proofs.Common.{ℕ, ◌<◌}
use Rattle.ir_picture.specs.Placing.{IsWaitingBox}
use Rattle.ir_picture.proofs.placing.Placing.first_ready.Given as goal

abbrev pub invariant-loop-thread : goal.invariant-loop-thread
invariant-loop-thread l = (t : ℕ) → t < l.thread → IsWaitingBox l.trace l.self t
