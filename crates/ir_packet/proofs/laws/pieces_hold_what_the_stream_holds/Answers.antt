use Rattle.ir_packet.proofs.Pieces.{items_from_of_append}
use Rattle.ir_packet.proofs.laws.pieces_hold_what_the_stream_holds.Goals as goal

pub returns : goal.returns
returns c = items_from_of_append
