use Rattle.std.proofs.Common.{◌≡◌, ◌∙◌, ◌++◌, ℕ, List, ap, subst}
use Rattle.ir_stream.specs.Writing.{WritesText}
use Rattle.ir_packet.specs.Packets.{packet_of}
use Rattle.ir_gdb.specs.Connection.{Connecting}
use Rattle.ir_gdb.proofs.connection.Connection.send.Goals as goal

pub returns-clause-writes : goal.returns-clause-writes
returns-clause-writes g c =
    let text : c.as_slice-2.result.now ≡ packet_of c.args.self.now.payload = c.as_slice-2.ensures.value ∙ c.put_packet.ensures.bytes
    ∙ ap (λ (xs : List ℕ). xs ++ packet_of c.as_slice.result.now) c.clear.ensures.items
    ∙ ap packet_of (c.as_slice.ensures.value ∙ ap (λ (x : Connecting). x.payload) c.self.view_is) in
    subst (λ (x : List ℕ). WritesText g.W.Sink.written g.W.Sink.broken c.args.writer.now c.write.new.writer x c.write.result) text
    c.write.ensures.writes
