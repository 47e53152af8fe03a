use Rattle.std.proofs.Common.{◌≡◌, ℕ, List, length}
use Rattle.ir_text.specs.Buffered.{Buffered}
use Rattle.ir_gdb.specs.Connection.{sent, connection_answer_text}
use Rattle.ir_gdb.proofs.connection.Connection.send_answer.Given as goal

-- the packets that are written, and those of the rest
abbrev pub invariant-pieces : goal.invariant-pieces
invariant-pieces g l = record {
  text : Buffered (g.W.Sink.written l.fn.writer) (g.W.Sink.written l.writer) (connection_answer_text l.rest) (connection_answer_text l.answer);
  link : (packet : List ℕ) → sent l.self.link l.self.link.stub packet ≡ sent l.fn.self.link l.fn.self.link.stub packet;
  reading : l.self.reading ≡ l.fn.self.reading;
  broken : g.W.Sink.broken l.writer ≡ g.W.Sink.broken l.fn.writer;
}

abbrev pub decreases-pieces : goal.decreases-pieces
decreases-pieces g l = length l.rest
