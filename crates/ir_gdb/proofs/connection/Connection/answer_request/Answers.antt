use Rattle.std.proofs.Common.{ap, ◌∙◌, refl, sym}
use Rattle.ir_stream.specs.Endings.{flow_after}
use Rattle.ir_gdb.specs.Connection.{Connecting, unacknowledged}
use Rattle.ir_stream.proofs.CallerLemmas.{writes_or_fails_whole, writes_or_fails_error}
use Rattle.ir_gdb.proofs.Arms.{request_ends_none, replied_sent, replied_part, detach_sent, detach_part, console_sent, console_part, quiet_sent}
use Rattle.ir_gdb.proofs.Arms.{quiet_part, guarded_sent, guarded_part, sent_nothing_after_kill}
use Rattle.ir_gdb.proofs.connection.Connection.answer_request.Goals as goal

pub returns-in-Kill-clause-writes : goal.returns-in-Kill-clause-writes
returns-in-Kill-clause-writes g c =
    writes_or_fails_whole
    (sent_nothing_after_kill c.args.self.now.link c.args.self.now.reading.payload c.args.request (g.W.Sink.written c.args.writer.now)
    c.in-Kill.is)
    refl

pub returns-in_err-answer_line-in-Console-clause-writes : goal.returns-in_err-answer_line-in-Console-clause-writes
returns-in_err-answer_line-in-Console-clause-writes g c = writes_or_fails_error _ c.from_residual.result c.from_residual.ensures.1
    (console_part c.args.self.now.link c.args.self.now.reading.payload
    c.args.request c.args.self.now.link (g.W.Sink.written c.args.writer.now) (g.W.Sink.written c.answer_line.new.writer) c.in-Console.is
    c.in_err-answer_line-in-Console.ensures.writes.prefix) c.in_err-answer_line-in-Console.ensures.writes.err

pub returns-in_ok-answer_line-in-Console-clause-writes : goal.returns-in_ok-answer_line-in-Console-clause-writes
returns-in_ok-answer_line-in-Console-clause-writes g c = writes_or_fails_whole (console_sent c.args.self.now.link c.args.self.now.reading.payload
    c.args.request c.answer_line.new.self.link (g.W.Sink.written c.args.writer.now) (g.W.Sink.written c.answer_line.new.writer) c.in-Console.is
    c.in_ok-answer_line-in-Console.ensures.writes.ok) c.in_ok-answer_line-in-Console.ensures.writes.stays

pub returns-in_err-answer_break-in-SetBreakIf-clause-writes : goal.returns-in_err-answer_break-in-SetBreakIf-clause-writes
returns-in_err-answer_break-in-SetBreakIf-clause-writes g c = writes_or_fails_error _ c.from_residual-in_err-answer_break-in-SetBreakIf.result
    c.from_residual-in_err-answer_break-in-SetBreakIf.ensures.1
    (guarded_part c.args.self.now.link c.args.self.now.reading.payload c.args.request c.args.self.now.link (g.W.Sink.written c.args.writer.now)
    (g.W.Sink.written c.answer_break.new.writer) c.in-SetBreakIf.address c.in-SetBreakIf.hardware c.in-SetBreakIf.is
    c.in_err-answer_break-in-SetBreakIf.ensures.writes.prefix) c.in_err-answer_break-in-SetBreakIf.ensures.writes.err

pub returns-in_ok-answer_break-in-SetBreakIf-clause-writes : goal.returns-in_ok-answer_break-in-SetBreakIf-clause-writes
returns-in_ok-answer_break-in-SetBreakIf-clause-writes g c = writes_or_fails_whole (guarded_sent c.args.self.now.link c.args.self.now.reading.payload
    c.args.request c.answer_break.new.self.link (g.W.Sink.written c.args.writer.now) (g.W.Sink.written c.answer_break.new.writer)
    c.in-SetBreakIf.address c.in-SetBreakIf.hardware c.in-SetBreakIf.is
    c.in_ok-answer_break-in-SetBreakIf.ensures.writes.ok) c.in_ok-answer_break-in-SetBreakIf.ensures.writes.stays

pub returns-in_err-send_reply-in-NoAcknowledgements-clause-writes : goal.returns-in_err-send_reply-in-NoAcknowledgements-clause-writes
returns-in_err-send_reply-in-NoAcknowledgements-clause-writes g c =
    writes_or_fails_error _ c.from_residual-in_err-send_reply-in-NoAcknowledgements.result
    c.from_residual-in_err-send_reply-in-NoAcknowledgements.ensures.1
    (quiet_part c.args.self.now.link c.args.self.now.reading.payload c.args.request c.args.self.now.link (g.W.Sink.written c.args.writer.now)
    (g.W.Sink.written c.send_reply.new.writer) c.in-NoAcknowledgements.is c.in_err-send_reply-in-NoAcknowledgements.ensures.writes.prefix) c.in_err-send_reply-in-NoAcknowledgements.ensures.writes.err

pub returns-in_ok-send_reply-in-NoAcknowledgements-clause-writes : goal.returns-in_ok-send_reply-in-NoAcknowledgements-clause-writes
returns-in_ok-send_reply-in-NoAcknowledgements-clause-writes g c = writes_or_fails_whole (quiet_sent c.args.self.now.link c.args.self.now.reading.payload c.args.request _
    (g.W.Sink.written c.args.writer.now) (g.W.Sink.written c.send_reply.new.writer) c.in-NoAcknowledgements.is
    (ap (λ (x : Connecting). unacknowledged x.link) c.self.view_is ∙ ap unacknowledged c.in_ok-send_reply-in-NoAcknowledgements.ensures.link)
    c.in_ok-send_reply-in-NoAcknowledgements.ensures.writes.ok) c.in_ok-send_reply-in-NoAcknowledgements.ensures.writes.stays

pub returns-in_err-answer-in-Detach-clause-writes : goal.returns-in_err-answer-in-Detach-clause-writes
returns-in_err-answer-in-Detach-clause-writes g c = writes_or_fails_error _ c.from_residual-in_err-answer-in-Detach.result c.from_residual-in_err-answer-in-Detach.ensures.1
    (detach_part c.args.self.now.link
    c.args.self.now.reading.payload c.args.request c.args.self.now.link (g.W.Sink.written c.args.writer.now) (g.W.Sink.written c.answer.new.writer)
    c.in-Detach.is c.in_err-answer-in-Detach.ensures.writes.prefix) c.in_err-answer-in-Detach.ensures.writes.err

pub returns-in_ok-answer-in-Detach-clause-writes : goal.returns-in_ok-answer-in-Detach-clause-writes
returns-in_ok-answer-in-Detach-clause-writes g c = writes_or_fails_whole (detach_sent c.args.self.now.link
    c.args.self.now.reading.payload c.args.request c.answer.new.self.link (g.W.Sink.written c.args.writer.now) (g.W.Sink.written c.answer.new.writer)
    c.in-Detach.is c.in_ok-answer-in-Detach.ensures.writes.ok) c.in_ok-answer-in-Detach.ensures.writes.stays

pub returns-in_err-answer-in_default-clause-writes : goal.returns-in_err-answer-in_default-clause-writes
returns-in_err-answer-in_default-clause-writes g c = writes_or_fails_error _ c.from_residual-in_err-answer-in_default.result c.from_residual-in_err-answer-in_default.ensures.1
    (replied_part c.args.self.now.link
    c.args.self.now.reading.payload c.args.request c.args.self.now.link (g.W.Sink.written c.args.writer.now) (g.W.Sink.written c.answer-in_default.new.writer)
    c.in_default.not-Kill c.in_default.not-Console c.in_default.not-NoAcknowledgements c.in_default.not-SetBreakIf
    c.in_err-answer-in_default.ensures.writes.prefix) c.in_err-answer-in_default.ensures.writes.err

pub returns-in_ok-answer-in_default-clause-writes : goal.returns-in_ok-answer-in_default-clause-writes
returns-in_ok-answer-in_default-clause-writes g c = writes_or_fails_whole (replied_sent c.args.self.now.link
    c.args.self.now.reading.payload c.args.request c.answer-in_default.new.self.link (g.W.Sink.written c.args.writer.now)
    (g.W.Sink.written c.answer-in_default.new.writer) c.in_default.not-Kill c.in_default.not-Console c.in_default.not-NoAcknowledgements c.in_default.not-SetBreakIf
    c.in_ok-answer-in_default.ensures.writes.ok) c.in_ok-answer-in_default.ensures.writes.stays

pub returns-in_ok-answer-in_default-clause-flow : goal.returns-in_ok-answer-in_default-clause-flow
returns-in_ok-answer-in_default-clause-flow g c = ap flow_after (sym (request_ends_none c.args.request c.in_default.not-Kill c.in_default.not-Detach))
