use Rattle.std.proofs.Common.{◌≡◌, false}
use Rattle.ir_gdb.proofs.Items.{AfterBytes}
use Rattle.ir_gdb.proofs.connection.Connection.serve.Given as goal

abbrev pub invariant-loop-taken : goal.invariant-loop-taken
invariant-loop-taken g l = record {
  at : AfterBytes l.fn.self.link (g.R.Source.left l.fn.reader) (g.W.Sink.written l.fn.writer) (g.R.Source.left l.reader) (g.W.Sink.written l.writer)
      l.self.link l.self.reading.place l.taken;
  reads : g.R.Source.broken l.reader ≡ false;
  writes : g.W.Sink.broken l.writer ≡ false;
}
