use Rattle.std.proofs.Common.{length}
use Rattle.ir_packet.proofs.number.+put_bytes.Given as goal

abbrev pub decreases-put_bytes : goal.decreases-put_bytes
decreases-put_bytes l = length l.digits.now
