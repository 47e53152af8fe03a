use Rattle.ir_packet.proofs.Cut.{bytes_of_parts, stream_parts_are_parts}
use Rattle.ir_packet.proofs.Only.{stream_parts_cut_off, such_parts_are_of_stream}
use Rattle.ir_packet.proofs.laws.parts_are_the_stream.Goals as goal

pub returns-clause-bytes : goal.returns-clause-bytes
returns-clause-bytes c = bytes_of_parts

pub returns-clause-form : goal.returns-clause-form
returns-clause-form c = stream_parts_are_parts

pub returns-clause-cut : goal.returns-clause-cut
returns-clause-cut c = stream_parts_cut_off

pub returns-clause-only : goal.returns-clause-only
returns-clause-only c = such_parts_are_of_stream
