use Rattle.std.proofs.Common.{◌-◌, ◌≤◌}
use Rattle.ir_weave.specs.Stepping.{IsUnder, HasGone}
use Rattle.ir_replay.proofs.stepping.go.Given as goal

abbrev pub invariant-steps : goal.invariant-steps
invariant-steps g l = record {
  under : IsUnder l.fitted l.target l.flat;
  gone : HasGone l.fn.flat l.flat l.t l.taken;
  within : l.taken ≤ l.most;
}

abbrev pub decreases-steps : goal.decreases-steps
decreases-steps g l = l.most - l.taken
