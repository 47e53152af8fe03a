use Rattle.ir_weave.specs.Stepping.{IsUnder, steps_left}
use Rattle.ir_replay.proofs.passes.finish.Given as goal

abbrev pub invariant-passes : goal.invariant-passes
invariant-passes l = IsUnder l.fitted l.target l.flat

abbrev pub decreases-passes : goal.decreases-passes
decreases-passes l = steps_left l.target l.flat
