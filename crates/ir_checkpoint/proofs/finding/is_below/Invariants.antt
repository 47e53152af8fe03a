use Rattle.std.proofs.Common.{◌≡◌, drop}
use Rattle.ir_checkpoint.specs.Keeping.{is_below}
use Rattle.ir_checkpoint.proofs.finding.is_below.Given as goal

abbrev pub invariant-loop-t : goal.invariant-loop-t
invariant-loop-t l = is_below (drop l.t l.low) (drop l.t l.high) ≡ is_below l.low l.high
