use Rattle.std.proofs.Common.{arith}
use Rattle.std.proofs.lemmas.Bool.{ne_eqb}
use Rattle.ir_packet.proofs.Kept.{full_step_drops_byte}
use Rattle.ir_packet.proofs.reader.inside.Goals as goal

pub returns-else-len-le-MOST_PAYLOAD-clause-place : goal.returns-else-len-le-MOST_PAYLOAD-clause-place
returns-else-len-le-MOST_PAYLOAD-clause-place c = full_step_drops_byte c.args.raw.now.items c.args.byte (omega (arith, c.requires.len))
    (omega (arith, c.if-len-le-MOST_PAYLOAD.false)) (ne_eqb c.args.byte 36 c.if-byte-eq36.false) (ne_eqb c.args.byte 35 c.if-byte-eq35.false)
