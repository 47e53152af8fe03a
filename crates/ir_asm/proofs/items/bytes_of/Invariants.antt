use Rattle.std.proofs.Common.{◌≡◌, ◌++◌, drop}
use Rattle.ir_asm.specs.Items.{values}
use Rattle.ir_asm.proofs.items.bytes_of.Given as goal

-- the numbers so far, and those that are left
abbrev pub invariant-loop-operand : goal.invariant-loop-operand
invariant-loop-operand l = l.bytes.items ++ values 8 (drop l.operand-index l.operands) ≡ values 8 l.operands
