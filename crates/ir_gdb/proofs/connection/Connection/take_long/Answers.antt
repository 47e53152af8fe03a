use Rattle.std.proofs.Common.{◌∙◌}
use Rattle.ir_stream.proofs.CallerLemmas.{writes_or_fails_whole, writes_or_fails_error}
use Rattle.ir_gdb.proofs.Answering.{too_long_answer_sent, too_long_in_part, too_long_sign_in_part}
use Rattle.ir_gdb.proofs.connection.Connection.take_long.Goals as goal

pub returns-in_err-acknowledge-clause-writes : goal.returns-in_err-acknowledge-clause-writes
returns-in_err-acknowledge-clause-writes g c = writes_or_fails_error _ c.from_residual.result c.from_residual.ensures.1
    (too_long_sign_in_part c.args.self.now.link _ _ c.in_err-acknowledge.ensures.writes.prefix) c.in_err-acknowledge.ensures.writes.err

pub returns-in_err-send_reply-clause-writes : goal.returns-in_err-send_reply-clause-writes
returns-in_err-send_reply-clause-writes g c = writes_or_fails_error _ c.from_residual-in_err-send_reply.result c.from_residual-in_err-send_reply.ensures.1
    (too_long_in_part c.args.self.now.link _ (g.W.Sink.written c.acknowledge.new.writer) _ c.in_ok-acknowledge.ensures.writes.ok
    c.in_err-send_reply.ensures.writes.prefix)
    c.in_err-send_reply.ensures.writes.err

pub returns-clause-writes : goal.returns-clause-writes
returns-clause-writes g c = writes_or_fails_whole (too_long_answer_sent c.args.self.now.link c.send_reply.new.self.link _ (g.W.Sink.written c.acknowledge.new.writer) _
    c.in_ok-send_reply.ensures.link c.in_ok-acknowledge.ensures.writes.ok c.in_ok-send_reply.ensures.writes.ok) (c.in_ok-send_reply.ensures.writes.stays ∙ c.in_ok-acknowledge.ensures.writes.stays)
