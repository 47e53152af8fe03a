use Rattle.ir_packet.proofs.Pieces.{items_read-kept}
use Rattle.ir_packet.proofs.laws.reader_finds_what_the_stream_holds.Goals as goal

pub returns : goal.returns
returns c = items_read-kept
