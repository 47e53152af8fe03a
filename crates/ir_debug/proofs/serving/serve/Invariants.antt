use Rattle.std.proofs.Common.{◌≡◌, false}
use Rattle.ir_stream.proofs.CallerLemmas.{IsSessionAt}
use Rattle.ir_debug.specs.Machine.{Replies, quits}
use Rattle.ir_debug.proofs.serving.serve.Given as goal

abbrev pub invariant-loop-taken : goal.invariant-loop-taken
invariant-loop-taken g l = record {
  at : IsSessionAt Replies quits l.fn.debugger.desk (g.R.Source.left l.fn.reader) (g.W.Sink.written l.fn.writer)
      (g.R.Source.left l.reader) (g.W.Sink.written l.writer) l.debugger.desk l.line.items l.taken;
  reads : g.R.Source.broken l.reader ≡ false;
  writes : g.W.Sink.broken l.writer ≡ false;
}
