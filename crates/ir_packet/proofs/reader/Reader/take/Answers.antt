use Rattle.std.proofs.Common.{ap, sym, arith}
use Rattle.ir_packet.specs.Reading.{Reading}
use Rattle.ir_packet.proofs.Kept.{summing_step_is_digit}
use Rattle.ir_packet.proofs.reader.Reader.take.Goals as goal

pub returns-in-Summing-clause-place : goal.returns-in-Summing-clause-place
returns-in-Summing-clause-place c = summing_step_is_digit c.self.inside.standing c.args.self.now.place c.self.inside.raw.items c.args.byte
    (omega (arith, c.self.invariant.0)) c.in-Summing.is (sym (ap (λ (r : Reading). r.place) c.self.view_is))
