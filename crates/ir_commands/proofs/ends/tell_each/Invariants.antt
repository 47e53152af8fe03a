use Rattle.ir_commands.specs.Files.{GoesOn}
use Rattle.ir_commands.proofs.ends.tell_each.Given as goal

-- what was reported before stands
abbrev pub invariant-loop-number : goal.invariant-loop-number
invariant-loop-number g l = GoesOn (g.E.Sink.written l.fn.faults) (g.E.Sink.written l.faults)
