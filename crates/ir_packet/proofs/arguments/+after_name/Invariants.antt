use Rattle.std.proofs.Common.{length}
use Rattle.ir_packet.proofs.arguments.+after_name.Given as goal

abbrev pub decreases-after_name : goal.decreases-after_name
decreases-after_name l = length l.name.now
