use Rattle.ir_packet.proofs.Again.{items_of_packet}
use Rattle.ir_packet.proofs.laws.packet_is_read_back.Goals as goal

pub returns : goal.returns
returns c = items_of_packet
