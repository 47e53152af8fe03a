use Rattle.std.proofs.Common.{◌∙◌, refl, sym, ap}
use Rattle.ir_stream.specs.Endings.{flow_after}
use Rattle.ir_packet.specs.Reading.{item_found}
use Rattle.ir_stream.proofs.CallerLemmas.{writes_or_fails_whole, writes_or_fails_mono}
use Rattle.ir_gdb.proofs.Arms.{copy_dropped, copy_ends_none, new_sent, new_part, ok_flow_of_ends}
use Rattle.ir_gdb.proofs.connection.Connection.take.Goals as goal

pub returns-then-is_copy-clause-writes : goal.returns-then-is_copy-clause-writes
returns-then-is_copy-clause-writes g c = writes_or_fails_whole (copy_dropped c.args.self.now.link (item_found c.args.found c.args.self.now.reading.payload)
    (g.W.Sink.written c.args.writer.now) (sym (c.is_copy.ensures c.args.self.now.reading.payload) ∙ c.if-is_copy.true)) refl

pub returns-then-is_copy-clause-flow : goal.returns-then-is_copy-clause-flow
returns-then-is_copy-clause-flow g c = ap flow_after (sym (copy_ends_none c.args.self.now.link
    (item_found c.args.found c.args.self.now.reading.payload) (sym (c.is_copy.ensures c.args.self.now.reading.payload) ∙ c.if-is_copy.true)))

pub returns-clause-writes : goal.returns-clause-writes
returns-clause-writes g c = writes_or_fails_mono c.take_new.result
    (new_sent c.args.self.now.link (item_found c.args.found c.args.self.now.reading.payload)
    c.take_new.new.self.link (g.W.Sink.written c.args.writer.now) (g.W.Sink.written c.take_new.new.writer)
    (sym (c.is_copy.ensures c.args.self.now.reading.payload) ∙ c.if-is_copy.false))
    (new_part c.args.self.now.link
    (item_found c.args.found c.args.self.now.reading.payload) (g.W.Sink.written c.args.writer.now)
    (g.W.Sink.written c.take_new.new.writer) (sym (c.is_copy.ensures c.args.self.now.reading.payload) ∙ c.if-is_copy.false))
    c.take_new.ensures.writes

pub returns-clause-flow : goal.returns-clause-flow
returns-clause-flow g c = ok_flow_of_ends c.take_new.result c.args.self.now.link (item_found c.args.found c.args.self.now.reading.payload)
    (sym (c.is_copy.ensures c.args.self.now.reading.payload) ∙ c.if-is_copy.false) c.take_new.ensures.flow
