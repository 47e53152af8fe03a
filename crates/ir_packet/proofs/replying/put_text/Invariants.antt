use Rattle.std.proofs.Common.{◌≡◌, ◌+◌, ◌++◌, drop}
use Rattle.std.specs.Prelude.{vec_len, vec_capacity}
use Rattle.ir_packet.proofs.replying.put_text.Given as goal

abbrev pub invariant-loop-byte : goal.invariant-loop-byte
invariant-loop-byte l = (l.out.items ++ drop l.byte-index l.text ≡ l.fn.out.items ++ l.fn.text)
    × (vec_len l.out ≡ vec_len l.fn.out + l.byte-index) × (vec_capacity l.out ≡ vec_capacity l.fn.out)
