use Rattle.std.proofs.Common.{length}
use Rattle.ir_packet.proofs.number.+are_pairs.Given as goal

abbrev pub decreases-are_pairs : goal.decreases-are_pairs
decreases-are_pairs l = length l.digits.now
