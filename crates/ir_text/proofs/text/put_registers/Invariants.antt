use Rattle.std.proofs.Common.{◌≡◌, ◌≤◌, ◌+◌, ◌*◌, ◌++◌}
use Rattle.arrayvec.specs.ArrayVec.{array_vec_len}
use Rattle.ir_text.specs.Texts.{registers_text}
use Rattle.ir_text.proofs.text.put_registers.Given as goal

abbrev pub invariant-loop-number : goal.invariant-loop-number
invariant-loop-number l = record {
  text : l.text.items ≡ l.fn.text.items ++ registers_text l.mach l.number;
  len : array_vec_len l.text ≤ 12 + 14 * l.number;
}
