use Rattle.std.proofs.Common.{ℕ, ◌<◌}
use Rattle.ir_cut.specs.Searching.{NoneAbove}
use Rattle.ir_cut.proofs.falling.thread_above.Given as goal

abbrev pub invariant-loop-t : goal.invariant-loop-t
invariant-loop-t l = (u : ℕ) → u < l.t → NoneAbove l.fitted l.positions l.next u
