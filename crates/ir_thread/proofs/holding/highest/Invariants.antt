use Rattle.std.proofs.Common.{◌≡◌, take}
use Rattle.ir_thread.specs.State.{highest}
use Rattle.ir_thread.proofs.holding.highest.Given as goal

abbrev pub invariant-loop-number : goal.invariant-loop-number
invariant-loop-number l = l.found ≡ highest (take l.number l.held)
