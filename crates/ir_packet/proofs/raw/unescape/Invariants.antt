use Rattle.std.proofs.Common.{◌≡◌, ◌≤◌, ◌++◌, drop}
use Rattle.std.specs.Prelude.{vec_len, vec_capacity}
use Rattle.ir_packet.specs.Packets.{unescaped, unescaped_from}
use Rattle.ir_packet.proofs.raw.unescape.Given as goal

-- what is left to read gives what is left of the payload
abbrev pub invariant-loop-byte : goal.invariant-loop-byte
invariant-loop-byte l = (l.payload.items ++ unescaped_from l.escapes (drop l.byte-index l.raw) ≡ unescaped l.fn.raw)
    × (vec_len l.payload ≤ l.byte-index) × (vec_capacity l.payload ≡ vec_capacity l.fn.payload)
