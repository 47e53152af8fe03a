use Rattle.ir_weave.specs.Stepping.{IsUnder}
use Rattle.ir_replay.proofs.passes.follow.Given as goal

abbrev pub invariant-loop-thread : goal.invariant-loop-thread
invariant-loop-thread l = IsUnder l.fitted l.target l.flat
