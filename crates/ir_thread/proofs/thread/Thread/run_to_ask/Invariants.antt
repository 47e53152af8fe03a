use Rattle.std.proofs.Common.{◌≤◌, ◌-◌}
use Rattle.ir_thread.specs.Private.{PrivateSteps}
use Rattle.ir_thread.proofs.thread.Thread.run_to_ask.Given as goal

abbrev pub decreases-loop-taken : goal.decreases-loop-taken
decreases-loop-taken l = l.limit - l.taken

abbrev pub invariant-loop-taken : goal.invariant-loop-taken
invariant-loop-taken l = record {
  within : l.taken ≤ l.limit;
  steps : PrivateSteps l.code l.taken l.fn.self l.self;
}
