use Rattle.std.proofs.Common.{length}
use Rattle.ir_packet.proofs.number.+index_of.Given as goal

abbrev pub decreases-index_of : goal.decreases-index_of
decreases-index_of l = length l.bytes.now
