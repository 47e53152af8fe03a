use Rattle.std.proofs.Common.{◌∙◌, ℕ, List, Ok, ap, subst}
use Rattle.std.specs.Io.KnownBytes.{Appends}
use Rattle.ir_stream.specs.Answers.{AppendsPrefix}
use Rattle.ir_packet.specs.Packets.{packet_of}
use Rattle.ir_packet.specs.Replies.{reply_text}
use Rattle.ir_packet.specs.Requests.{console_line}
use Rattle.ir_packet.specs.declared.reply.Reply.TheVariants.{Done}
use Rattle.ir_debug.specs.Machine.{quits}
use Rattle.ir_gdb.specs.Connection.{connection_answer_text}
use Rattle.ir_stream.proofs.CallerLemmas.{writes_or_fails_error, writes_from_earlier, writes_or_fails_mono}
use Rattle.ir_gdb.proofs.Answering.{sent_answer_to_line, quit_answer_sent, sent_no_memory_reply, answer_sent_in_part, done_sent_in_part, quit_answer_in_part, no_memory_in_part}
use Rattle.ir_gdb.proofs.Lines.{some_consulted, none_consulted, err_consulted}
use Rattle.ir_gdb.proofs.connection.Connection.answer_line.Goals as goal

pub returns-in_err-send_answer-in-Ok-Some-clause-writes : goal.returns-in_err-send_answer-in-Ok-Some-clause-writes
returns-in_err-send_answer-in-Ok-Some-clause-writes g c =
    let some = some_consulted c.args.self.now.link c.answer_of.new.self.link (console_line c.args.self.now.reading.payload) c.answer_of.result
    c.answer_of.ensures.answer c.in-Ok-Some.answered (c.in-Ok-Some.is ∙ ap Ok c.in-Ok-Some.field-0-is) in
    writes_or_fails_error _ c.from_residual.result c.from_residual.ensures.1 (answer_sent_in_part (quits (console_line c.args.self.now.reading.payload)) c.args.self.now.link
    (console_line c.args.self.now.reading.payload) some.1.0 c.in-Ok-Some.answered.bytes.items _ _ some.0 some.1.1
    (subst (λ (xs : List ℕ). AppendsPrefix (g.W.Sink.written c.args.writer.now) (g.W.Sink.written c.send_answer.new.writer) (connection_answer_text xs))
    c.as_slice.ensures c.in_err-send_answer-in-Ok-Some.ensures.writes.prefix))
    c.in_err-send_answer-in-Ok-Some.ensures.writes.err

pub returns-in_ok-send_answer-in-Ok-Some-clause-writes : goal.returns-in_ok-send_answer-in-Ok-Some-clause-writes
returns-in_ok-send_answer-in-Ok-Some-clause-writes g c =
    let some = some_consulted c.args.self.now.link c.answer_of.new.self.link (console_line c.args.self.now.reading.payload) c.answer_of.result
    c.answer_of.ensures.answer c.in-Ok-Some.answered (c.in-Ok-Some.is ∙ ap Ok c.in-Ok-Some.field-0-is) in
    let first : Appends (g.W.Sink.written c.args.writer.now) (g.W.Sink.written c.send_answer.new.writer) (connection_answer_text c.in-Ok-Some.answered.bytes.items) =
    subst (λ (xs : List ℕ). Appends (g.W.Sink.written c.args.writer.now) (g.W.Sink.written c.send_answer.new.writer) (connection_answer_text xs))
    c.as_slice.ensures c.in_ok-send_answer-in-Ok-Some.ensures.writes.ok in
    writes_from_earlier c.send_reply.result c.in_ok-send_answer-in-Ok-Some.ensures.writes.stays
    (λ last. sent_answer_to_line (quits (console_line c.args.self.now.reading.payload)) c.args.self.now.link
    (console_line c.args.self.now.reading.payload) some.1.0 c.in-Ok-Some.answered.bytes.items c.answer_of.new.self.link
    c.send_answer.new.self.link c.send_reply.new.self.link _ (g.W.Sink.written c.send_answer.new.writer) _ some.0 some.1.1 some.1.2
    (c.in_ok-send_answer-in-Ok-Some.ensures.link (packet_of (reply_text Done))) c.send_reply.ensures.link first last)
    (λ last. done_sent_in_part (quits (console_line c.args.self.now.reading.payload)) c.args.self.now.link
    (console_line c.args.self.now.reading.payload) some.1.0 c.in-Ok-Some.answered.bytes.items _ (g.W.Sink.written c.send_answer.new.writer) _
    some.0 some.1.1 first last)
    c.send_reply.ensures.writes

pub returns-in-Ok-None-clause-writes : goal.returns-in-Ok-None-clause-writes
returns-in-Ok-None-clause-writes g c =
    let none = none_consulted c.args.self.now.link c.answer_of.new.self.link (console_line c.args.self.now.reading.payload) c.answer_of.result
    c.answer_of.ensures.answer (c.in-Ok-None.is ∙ ap Ok c.in-Ok-None.field-0-is) in
    writes_or_fails_mono c.send_reply-in-Ok-None.result
    (λ all. quit_answer_sent (quits (console_line c.args.self.now.reading.payload)) c.args.self.now.link
    (console_line c.args.self.now.reading.payload) c.answer_of.new.self.link c.send_reply-in-Ok-None.new.self.link _ _ none.0 none.1
    c.send_reply-in-Ok-None.ensures.link all)
    (λ last. quit_answer_in_part (quits (console_line c.args.self.now.reading.payload)) c.args.self.now.link
    (console_line c.args.self.now.reading.payload) _ _ none.0 last)
    c.send_reply-in-Ok-None.ensures.writes

pub returns-in-Err-clause-writes : goal.returns-in-Err-clause-writes
returns-in-Err-clause-writes g c =
    let lacks = err_consulted c.args.self.now.link c.answer_of.new.self.link (console_line c.args.self.now.reading.payload) c.answer_of.result
    c.answer_of.ensures.answer c.in-Err.field-0 c.in-Err.is in
    writes_or_fails_mono c.send_reply-in-Err.result
    (λ all. sent_no_memory_reply (quits (console_line c.args.self.now.reading.payload)) c.args.self.now.link
    (console_line c.args.self.now.reading.payload) c.answer_of.new.self.link c.send_reply-in-Err.new.self.link _ _ lacks.0 lacks.1
    c.send_reply-in-Err.ensures.link all)
    (λ last. no_memory_in_part (quits (console_line c.args.self.now.reading.payload)) c.args.self.now.link
    (console_line c.args.self.now.reading.payload) c.answer_of.new.self.link _ _ lacks.0 lacks.1 last)
    c.send_reply-in-Err.ensures.writes
