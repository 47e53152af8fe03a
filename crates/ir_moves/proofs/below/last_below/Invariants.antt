use Rattle.std.specs.Prelude.{IfSome}
use Rattle.ir_moves.specs.Below.{IsStateBelow}
use Rattle.ir_moves.proofs.below.last_below.Given as goal

abbrev pub invariant-loop-place : goal.invariant-loop-place
invariant-loop-place l = IfSome l.best (IsStateBelow l.keeper.kept l.t l.position)
