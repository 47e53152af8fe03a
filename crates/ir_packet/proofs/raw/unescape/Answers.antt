use Rattle.std.proofs.Common.{arith}
use Rattle.ir_packet.specs.Packets.{unescaped}
use Rattle.ir_packet.proofs.Escapes.{unescaped_past_end}
use Rattle.ir_packet.proofs.raw.unescape.Goals as goal

pub returns-clause-payload : goal.returns-clause-payload
returns-clause-payload c = unescaped_past_end c.loop-byte.payload.items (unescaped c.args.raw.now) c.args.raw.now c.loop-byte.escapes
    c.loop-byte.byte-index (omega (arith, c.loop-byte-test.false)) c.loop-byte.invariant.0
