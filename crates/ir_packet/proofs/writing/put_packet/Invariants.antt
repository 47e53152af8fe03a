use Rattle.std.proofs.Common.{◌≡◌, ◌≤◌, ◌<◌, ◌+◌, ◌*◌, ◌%◌, ◌++◌, ◌∷◌, drop}
use Rattle.std.specs.Prelude.{sum, vec_len, vec_capacity}
use Rattle.ir_packet.specs.Packets.{escaped}
use Rattle.ir_packet.proofs.writing.put_packet.Given as goal

-- what is left to write gives what is left of the packet, and of its sum
abbrev pub invariant-loop-byte : goal.invariant-loop-byte
invariant-loop-byte l = (l.out.items ++ escaped (drop l.byte-index l.payload) ≡ l.fn.out.items ++ 36 ∷ escaped l.fn.payload)
    × ((l.sum + sum (escaped (drop l.byte-index l.payload))) % 256 ≡ sum (escaped l.fn.payload) % 256)
    × (l.sum < 256) × (vec_len l.out ≤ vec_len l.fn.out + 1 + 2 * l.byte-index) × (vec_capacity l.out ≡ vec_capacity l.fn.out)
