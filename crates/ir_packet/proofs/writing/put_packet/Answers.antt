use Rattle.std.proofs.Common.{arith}
use Rattle.ir_packet.proofs.Written.{whole_packet_at_end}
use Rattle.ir_packet.proofs.writing.put_packet.Goals as goal

pub returns-clause-bytes : goal.returns-clause-bytes
returns-clause-bytes c =
    let all = c.loop-byte.invariant in
    whole_packet_at_end c.args.out.now.items c.loop-byte.out.items c.push_reserved-2.new.self.items c.put_digits.new.out.items c.args.payload.now
    c.loop-byte.sum c.loop-byte.byte-index (omega (arith, c.loop-byte-test.false)) all.0 all.1 all.2 c.push_reserved-2.ensures.items
    c.put_digits.ensures.bytes
