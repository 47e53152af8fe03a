use Rattle.ir_packet.specs.Requests.{break_conditions}
use Rattle.ir_gdb.specs.Guards.{Guarded, guarded}
use Rattle.ir_stream.proofs.CallerLemmas.{writes_or_fails_mono}
use Rattle.ir_gdb.proofs.Answering.{break_reply_sent, break_reply_in_part}
use Rattle.ir_gdb.proofs.connection.Connection.answer_break.Goals as goal

pub returns-clause-writes : goal.returns-clause-writes
returns-clause-writes g c =
    let l = c.args.self.now.link in
    let b : Guarded = guarded c.args.point (break_conditions c.args.self.now.reading.payload) in
    let mid = c.set_break-reply.new.self.link in
    let r = c.set_break-reply.result in
    writes_or_fails_mono c.send_reply.result
    (λ grown. break_reply_sent l b r mid c.send_reply.new.self.link (g.W.Sink.written c.args.writer.now) (g.W.Sink.written c.send_reply.new.writer)
    c.set_break-reply.ensures.link c.send_reply.ensures.link grown)
    (λ grown. break_reply_in_part l b r mid (g.W.Sink.written c.args.writer.now) (g.W.Sink.written c.send_reply.new.writer) c.set_break-reply.ensures.link grown)
    c.send_reply.ensures.writes
