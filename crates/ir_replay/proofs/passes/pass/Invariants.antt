use Rattle.std.proofs.Common.{◌≤◌}
use Rattle.ir_replay.specs.Passes.{IsPass}
use Rattle.ir_replay.proofs.passes.pass.Given as goal

abbrev pub invariant-loop-t : goal.invariant-loop-t
invariant-loop-t g l = record {
  within : l.taken ≤ l.most;
  passed : IsPass l.fitted l.target l.fn.flat l.flat l.taken l.most l.t;
}
