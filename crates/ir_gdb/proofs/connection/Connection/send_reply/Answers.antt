use Rattle.std.proofs.Common.{◌≡◌, ◌∙◌, ◌++◌, arith, ap, subst, length, List, ℕ}
use Rattle.ir_stream.specs.Writing.{WritesText}
use Rattle.ir_packet.specs.Packets.{packet_of}
use Rattle.ir_packet.specs.Replies.{reply_text}
use Rattle.ir_gdb.proofs.Written.{reply_text_is_short}
use Rattle.ir_gdb.proofs.connection.Connection.send_reply.Goals as goal

pub put_text-requires : goal.put_text-requires
put_text-requires g c =
    let short = reply_text_is_short c.args.reply in
    let text = ap (λ (xs : List ℕ). length xs) c.reply_text.ensures in
    let room = c.self.invariant.0 in
    let kept = c.clear.ensures.capacity in
    let none = c.clear.ensures.len in
    omega (arith, short, text, room, kept, none)

pub returns-clause-writes : goal.returns-clause-writes
returns-clause-writes g c =
    let text : c.put_text.new.out.items ≡ reply_text c.args.reply = c.put_text.ensures.bytes
    ∙ ap (λ (xs : List ℕ). xs ++ c.reply_text.result.now) c.clear.ensures.items ∙ c.reply_text.ensures in
    subst (λ (x : List ℕ). WritesText g.W.Sink.written g.W.Sink.broken c.args.writer.now c.send.new.writer (packet_of x) c.send.result) text
    c.send.ensures.writes
