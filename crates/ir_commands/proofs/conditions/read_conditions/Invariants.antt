use Rattle.std.proofs.Common.{take}
use Rattle.ir_commands.specs.Conditions.{AreWritten}
use Rattle.ir_commands.proofs.conditions.read_conditions.Given as goal

-- the conditions of the texts so far
abbrev pub invariant-loop-text : goal.invariant-loop-text
invariant-loop-text l = AreWritten (take l.text-index l.texts) l.conditions.items
