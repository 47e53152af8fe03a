use Rattle.std.proofs.Common.{◌∙◌, refl, ap, subst}
use Rattle.ir_packet.specs.Packets.{packet_of}
use Rattle.ir_packet.specs.Replies.{reply_text}
use Rattle.ir_packet.specs.declared.reply.Reply.TheVariants.{NoMemory}
use Rattle.ir_gdb.specs.Stub.{Stub}
use Rattle.ir_gdb.specs.Replies.{RepliesTo}
use Rattle.ir_gdb.specs.Connection.{Connecting, sent}
use Rattle.ir_stream.proofs.CallerLemmas.{writes_or_fails_mono}
use Rattle.ir_gdb.proofs.Answering.{replies_if_carried_out, lacking_says_no_memory, sent_reply_packet, reply_sent_in_part}
use Rattle.ir_gdb.proofs.connection.Connection.answer.Goals as goal

pub returns-in-Ok-clause-writes : goal.returns-in-Ok-clause-writes
returns-in-Ok-clause-writes g c =
    let replies : RepliesTo c.args.self.now.link.stub c.args.request c.reply.new.out.items c.reply.new.self.stub =
    subst (λ (x : Stub). RepliesTo x c.args.request c.reply.new.out.items c.reply.new.self.stub) (ap (λ (x : Connecting). x.link.stub) c.self.view_is)
    (replies_if_carried_out c.self.inside.remote.stub c.args.request c.reply.new.self.stub _ c.reply.new.out.items c.in-Ok.ensures.ok c.clear.ensures.items) in
    writes_or_fails_mono c.send.result
    (λ grown. sent_reply_packet c.args.self.now.link c.args.request c.reply.new.self.stub c.reply.new.out.items
    (record c.args.self.now.link { stub = c.reply.new.self.stub }) c.send.new.self.link (g.W.Sink.written c.args.writer.now)
    (g.W.Sink.written c.send.new.writer) replies refl (c.send.ensures.link
    ∙ ap (λ (x : Connecting). sent (record x.link { stub = c.reply.new.self.stub }) c.reply.new.self.stub (packet_of c.reply.new.out.items)) c.self.view_is) grown)
    (λ grown. reply_sent_in_part c.args.self.now.link c.args.request c.reply.new.self.stub c.reply.new.out.items
    (record c.args.self.now.link { stub = c.reply.new.self.stub })
    (sent (record c.args.self.now.link { stub = c.reply.new.self.stub }) c.reply.new.self.stub (packet_of c.reply.new.out.items))
    (g.W.Sink.written c.args.writer.now) (g.W.Sink.written c.send.new.writer) replies refl refl grown)
    c.send.ensures.writes

pub returns-in-Err-clause-writes : goal.returns-in-Err-clause-writes
returns-in-Err-clause-writes g c =
    let replies : RepliesTo c.args.self.now.link.stub c.args.request (reply_text NoMemory) c.reply.new.self.stub =
    subst (λ (x : Stub). RepliesTo x c.args.request (reply_text NoMemory) c.reply.new.self.stub) (ap (λ (x : Connecting). x.link.stub) c.self.view_is)
    (lacking_says_no_memory c.self.inside.remote.stub c.args.request c.reply.new.self.stub c.in-Err.ensures.err.0) in
    writes_or_fails_mono c.send_reply.result
    (λ grown. sent_reply_packet c.args.self.now.link c.args.request c.reply.new.self.stub (reply_text NoMemory)
    (record c.args.self.now.link { stub = c.reply.new.self.stub }) c.send_reply.new.self.link (g.W.Sink.written c.args.writer.now)
    (g.W.Sink.written c.send_reply.new.writer) replies refl (c.send_reply.ensures.link
    ∙ ap (λ (x : Connecting). sent (record x.link { stub = c.reply.new.self.stub }) c.reply.new.self.stub (packet_of (reply_text NoMemory))) c.self.view_is) grown)
    (λ grown. reply_sent_in_part c.args.self.now.link c.args.request c.reply.new.self.stub (reply_text NoMemory)
    (record c.args.self.now.link { stub = c.reply.new.self.stub })
    (sent (record c.args.self.now.link { stub = c.reply.new.self.stub }) c.reply.new.self.stub (packet_of (reply_text NoMemory)))
    (g.W.Sink.written c.args.writer.now) (g.W.Sink.written c.send_reply.new.writer) replies refl refl grown)
    c.send_reply.ensures.writes
