use Rattle.std.proofs.Common.{length}
use Rattle.ir_packet.proofs.number.+value_from.Given as goal

abbrev pub decreases-value_from : goal.decreases-value_from
decreases-value_from l = length l.digits.now
