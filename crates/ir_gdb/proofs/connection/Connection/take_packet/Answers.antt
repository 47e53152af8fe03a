use Rattle.std.proofs.Common.{◌∙◌, ap}
use Rattle.ir_packet.specs.Requests.{request_of}
use Rattle.ir_gdb.specs.Connection.{Connecting}
use Rattle.ir_stream.proofs.CallerLemmas.{writes_from_earlier}
use Rattle.ir_gdb.proofs.Requests.{asked_register_below_33}
use Rattle.ir_gdb.proofs.Arms.{packet_answer_sent, packet_answer_part}
use Rattle.ir_gdb.proofs.connection.Connection.take_packet.Goals as goal

pub answer_request-requires-clause-register : goal.answer_request-requires-clause-register
answer_request-requires-clause-register g c κs within = λ n e.
    asked_register_below_33 c.payload.result.now c.request_of-request.result n c.request_of-request.ensures e

pub returns-clause-writes : goal.returns-clause-writes
returns-clause-writes g c = writes_from_earlier c.answer_request.result c.in_ok-acknowledge.ensures.writes.stays
    (λ rest. packet_answer_sent c.args.self.now.link c.args.self.now.reading.payload c.request_of-request.result c.answer_request.new.self.link
    (g.W.Sink.written c.args.writer.now) (g.W.Sink.written c.acknowledge.new.writer) (g.W.Sink.written c.answer_request.new.writer)
    (c.request_of-request.ensures ∙ ap request_of (c.payload.ensures ∙ ap (λ (x : Connecting). x.reading.payload) c.self.view_is)) c.in_ok-acknowledge.ensures.writes.ok rest)
    (λ rest. packet_answer_part c.args.self.now.link c.args.self.now.reading.payload c.request_of-request.result
    (g.W.Sink.written c.args.writer.now) (g.W.Sink.written c.acknowledge.new.writer) (g.W.Sink.written c.answer_request.new.writer)
    (c.request_of-request.ensures ∙ ap request_of (c.payload.ensures ∙ ap (λ (x : Connecting). x.reading.payload) c.self.view_is)) c.in_ok-acknowledge.ensures.writes.ok rest)
    c.answer_request.ensures.writes
