use Rattle.std.proofs.Common.{◌≡◌, ◌∙◌, ◌++◌, ℕ, List, ap, subst}
use Rattle.ir_stream.specs.Writing.{WritesText}
use Rattle.ir_packet.specs.Packets.{packet_of}
use Rattle.ir_packet.specs.Replies.{output_reply}
use Rattle.ir_gdb.proofs.connection.Connection.send_piece.Goals as goal

pub returns-clause-writes : goal.returns-clause-writes
returns-clause-writes g c =
    let text : c.put_output.new.out.items ≡ output_reply c.args.piece.now = c.put_output.ensures.bytes
    ∙ ap (λ (xs : List ℕ). xs ++ output_reply c.args.piece.now) c.clear.ensures.items in
    subst (λ (x : List ℕ). WritesText g.W.Sink.written g.W.Sink.broken c.args.writer.now c.send.new.writer (packet_of x) c.send.result) text
    c.send.ensures.writes
