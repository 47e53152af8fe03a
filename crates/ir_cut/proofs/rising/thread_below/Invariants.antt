use Rattle.std.proofs.Common.{ℕ, ◌<◌}
use Rattle.ir_cut.specs.Searching.{NoneBelow}
use Rattle.ir_cut.proofs.rising.thread_below.Given as goal

abbrev pub invariant-loop-t : goal.invariant-loop-t
invariant-loop-t l = (u : ℕ) → u < l.t → NoneBelow l.fitted l.positions l.next u
