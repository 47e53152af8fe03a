use Rattle.ir_packet.proofs.Cut.{items_of_parts}
use Rattle.ir_packet.proofs.laws.parts_hold_what_the_stream_holds.Goals as goal

pub returns : goal.returns
returns c = items_of_parts
