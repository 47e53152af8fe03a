use Rattle.std.proofs.Common.{◌≡◌}
use Rattle.ir_commands.proofs.recording.any_loses.Given as goal

-- nothing was reported
abbrev pub invariant-loop-path : goal.invariant-loop-path
invariant-loop-path g l = l.faults ≡ l.fn.faults
