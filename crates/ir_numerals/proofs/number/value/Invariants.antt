use Rattle.ir_numerals.proofs.Values.{IsValueOfPrefix}
use Rattle.ir_numerals.proofs.number.value.Given as goal

abbrev pub invariant-loop-byte : goal.invariant-loop-byte
invariant-loop-byte l = IsValueOfPrefix l.radix l.byte-index l.value l.digits
