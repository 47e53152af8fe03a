use Rattle.std.proofs.Common.{◌≡◌, ◌∙◌, ℕ, List, Bool, true, false, refl, ap}
use Rattle.ir_gdb.specs.Stub.{Stub}
use Rattle.ir_packet.specs.Reading.{item_found}
use Rattle.ir_packet.specs.declared.found.Found.{Found}
use Rattle.ir_gdb.specs.Connection.{Connecting, Link, request_ends}
use Rattle.ir_stream.proofs.CallerLemmas.{writes_or_fails_whole, writes_or_fails_error, writes_or_fails_mono}
use Rattle.ir_gdb.proofs.Arms.{packet_answered, packet_answered_part, ok_flow_of_found, long_answered, long_answered_part, bad_answered}
use Rattle.ir_gdb.proofs.Arms.{bad_answered_part, interrupt_answered, acknowledged_answered, refused_answered, refused_answered_part}
use Rattle.ir_gdb.proofs.Arms.{ok_flow_of_test}
use Rattle.ir_gdb.proofs.connection.Connection.take_new.Goals as goal

abbrev link_with : Stub → Bool → Bool → List ℕ → Link
link_with s acknowledges is_owed last = record { stub = s; acknowledges = acknowledges; is_owed = is_owed; last = last }

interrupted_link : (s old : Stub) (acknowledges is_owed : Bool) (last : List ℕ) → s ≡ record old { interrupted = true }
    → link_with s acknowledges is_owed last ≡ link_with (record old { interrupted = true }) acknowledges is_owed last
interrupted_link s old acknowledges is_owed last e = ap (λ (x : Stub). link_with x acknowledges is_owed last) e

pub returns-in-Packet-clause-writes : goal.returns-in-Packet-clause-writes
returns-in-Packet-clause-writes g c = writes_or_fails_mono c.take_packet.result
    (packet_answered c.args.self.now.link c.args.self.now.reading.payload c.args.found
    c.take_packet.new.self.link (g.W.Sink.written c.args.writer.now) (g.W.Sink.written c.take_packet.new.writer) c.in-Packet.is)
    (packet_answered_part c.args.self.now.link c.args.self.now.reading.payload c.args.found
    c.take_packet.new.self.link (g.W.Sink.written c.args.writer.now) (g.W.Sink.written c.take_packet.new.writer) c.in-Packet.is)
    c.take_packet.ensures.writes

pub returns-in-Packet-clause-flow : goal.returns-in-Packet-clause-flow
returns-in-Packet-clause-flow g c = ok_flow_of_found c.take_packet.result c.args.self.now.reading.payload c.args.found c.in-Packet.is c.take_packet.ensures.flow

pub returns-in-TooLong-clause-writes : goal.returns-in-TooLong-clause-writes
returns-in-TooLong-clause-writes g c = writes_or_fails_mono c.take_long.result
    (long_answered c.args.self.now.link c.args.self.now.reading.payload c.args.found
    c.take_long.new.self.link (g.W.Sink.written c.args.writer.now) (g.W.Sink.written c.take_long.new.writer) c.in-TooLong.is)
    (long_answered_part c.args.self.now.link c.args.self.now.reading.payload c.args.found
    c.take_long.new.self.link (g.W.Sink.written c.args.writer.now) (g.W.Sink.written c.take_long.new.writer) c.in-TooLong.is)
    c.take_long.ensures.writes

pub returns-in-TooLong-clause-flow : goal.returns-in-TooLong-clause-flow
returns-in-TooLong-clause-flow g c = ok_flow_of_test c.take_long.result (request_ends (item_found c.args.found c.args.self.now.reading.payload))
    (ap (λ (f : Found). request_ends (item_found f c.args.self.now.reading.payload)) c.in-TooLong.is) c.take_long.ensures.flow

pub returns-in_err-acknowledge-in-BadSum-clause-writes : goal.returns-in_err-acknowledge-in-BadSum-clause-writes
returns-in_err-acknowledge-in-BadSum-clause-writes g c = writes_or_fails_error _ c.from_residual.result c.from_residual.ensures.1
    (bad_answered_part c.args.self.now.link
    c.args.self.now.reading.payload c.args.found c.args.self.now.link (g.W.Sink.written c.args.writer.now) (g.W.Sink.written c.acknowledge.new.writer)
    c.in-BadSum.is c.in_err-acknowledge-in-BadSum.ensures.writes.prefix) c.in_err-acknowledge-in-BadSum.ensures.writes.err

pub returns-in_ok-acknowledge-in-BadSum-clause-writes : goal.returns-in_ok-acknowledge-in-BadSum-clause-writes
returns-in_ok-acknowledge-in-BadSum-clause-writes g c = writes_or_fails_whole (bad_answered c.args.self.now.link
    c.args.self.now.reading.payload c.args.found c.args.self.now.link (g.W.Sink.written c.args.writer.now) (g.W.Sink.written c.acknowledge.new.writer)
    c.in-BadSum.is refl c.in_ok-acknowledge-in-BadSum.ensures.writes.ok) c.in_ok-acknowledge-in-BadSum.ensures.writes.stays

pub returns-in-Interrupt-clause-writes : goal.returns-in-Interrupt-clause-writes
returns-in-Interrupt-clause-writes g c = writes_or_fails_whole (interrupt_answered c.args.self.now.link c.args.self.now.reading.payload c.args.found _
    (g.W.Sink.written c.args.writer.now) c.in-Interrupt.is
    (interrupted_link c.interrupt.new.self.stub c.self.inside.remote.stub c.self.inside.acknowledges c.self.inside.is_owed c.self.inside.packet.items c.interrupt.ensures
    ∙ ap (λ (x : Connecting). record x.link { stub = record x.link.stub { interrupted = true } }) c.self.view_is)) refl

pub returns-in-Acknowledged-clause-writes : goal.returns-in-Acknowledged-clause-writes
returns-in-Acknowledged-clause-writes g c = writes_or_fails_whole (acknowledged_answered c.args.self.now.link c.args.self.now.reading.payload c.args.found _
    (g.W.Sink.written c.args.writer.now) c.in-Acknowledged.is (ap (λ (x : Connecting). record x.link { is_owed = false }) c.self-in-Acknowledged.view_is)) refl

pub returns-in_err-resend-in-Refused-clause-writes : goal.returns-in_err-resend-in-Refused-clause-writes
returns-in_err-resend-in-Refused-clause-writes g c = writes_or_fails_error _ c.from_residual-in_err-resend-in-Refused.result c.from_residual-in_err-resend-in-Refused.ensures.1
    (refused_answered_part c.args.self.now.link
    c.args.self.now.reading.payload c.args.found c.args.self.now.link (g.W.Sink.written c.args.writer.now) (g.W.Sink.written c.resend.new.writer)
    c.in-Refused.is c.in_err-resend-in-Refused.ensures.writes.prefix) c.in_err-resend-in-Refused.ensures.writes.err

pub returns-in_ok-resend-in-Refused-clause-writes : goal.returns-in_ok-resend-in-Refused-clause-writes
returns-in_ok-resend-in-Refused-clause-writes g c = writes_or_fails_whole (refused_answered c.args.self.now.link
    c.args.self.now.reading.payload c.args.found c.args.self.now.link (g.W.Sink.written c.args.writer.now) (g.W.Sink.written c.resend.new.writer)
    c.in-Refused.is refl c.in_ok-resend-in-Refused.ensures.writes.ok) c.in_ok-resend-in-Refused.ensures.writes.stays
