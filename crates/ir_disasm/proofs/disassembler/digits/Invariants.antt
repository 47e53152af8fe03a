use Rattle.std.proofs.Common.{◌≡◌, ◌≤◌, ◌++◌}
use Rattle.std.specs.String.{string_bytes}
use Rattle.ir_disasm.specs.Printed.{hex}
use Rattle.ir_disasm.proofs.disassembler.digits.Given as goal

-- the digits so far, and those that are left
abbrev pub invariant-loop-left : goal.invariant-loop-left
invariant-loop-left l = record {
  few : l.left ≤ 8;
  emitted : string_bytes l.text ++ hex l.left l.number ≡ hex l.fn.count l.number;
}

abbrev pub decreases-loop-left : goal.decreases-loop-left
decreases-loop-left l = l.left
