use Rattle.std.proofs.Common.{◌≡◌, ◌+◌, ◌*◌, ◌++◌, drop}
use Rattle.std.specs.Prelude.{vec_len, vec_capacity}
use Rattle.hex.specs.Hex.{encode_lower}
use Rattle.ir_packet.proofs.writing.put_hex.Given as goal

abbrev pub invariant-loop-byte : goal.invariant-loop-byte
invariant-loop-byte l = (l.out.items ++ encode_lower (drop l.byte-index l.bytes) ≡ l.fn.out.items ++ encode_lower l.fn.bytes)
    × (vec_len l.out ≡ vec_len l.fn.out + 2 * l.byte-index) × (vec_capacity l.out ≡ vec_capacity l.fn.out)
