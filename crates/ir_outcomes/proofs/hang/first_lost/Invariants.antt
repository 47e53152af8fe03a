use Rattle.std.proofs.Common.{ℕ, ◌<◌}
use Rattle.ir_search.specs.Following.{IsNodeOpen}
use Rattle.ir_outcomes.proofs.hang.first_lost.Given as goal

abbrev pub invariant-loop-v : goal.invariant-loop-v
invariant-loop-v l = (w : ℕ) → w < l.v → IsNodeOpen l.marks w
