use Rattle.std.proofs.Common.{◌≡◌, drop}
use Rattle.ir_text.specs.Buffered.{Buffered}
use Rattle.ir_text.specs.Texts.{threads_text}
use Rattle.ir_text.proofs.verdicts.write_threads.Given as goal

-- the lines that are written, and those of the other threads
abbrev pub invariant-loop-t : goal.invariant-loop-t
invariant-loop-t g l = record {
  text :
      Buffered (g.W.Sink.written l.fn.writer) (g.W.Sink.written l.writer) (threads_text l.t (drop l.t l.verdicts))
      (threads_text 0 l.verdicts);
  broken : g.W.Sink.broken l.writer ≡ g.W.Sink.broken l.fn.writer;
}
