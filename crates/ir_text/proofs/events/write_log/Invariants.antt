use Rattle.std.proofs.Common.{◌≡◌, ◌++◌, map, drop}
use Rattle.ir_log.specs.Logging.{label_of}
use Rattle.ir_text.specs.Buffered.{Buffered}
use Rattle.ir_text.specs.Texts.{event_lines, log_text}
use Rattle.ir_text.proofs.events.write_log.Given as goal

abbrev pub invariant-loop-index : goal.invariant-loop-index
invariant-loop-index g l = record {
  text :
      Buffered (g.W.Sink.written l.fn.writer) (g.W.Sink.written l.writer)
      (l.text.items ++ event_lines l.index (map label_of (drop l.index l.so_far))) (log_text (map label_of l.so_far) l.all);
  broken : g.W.Sink.broken l.writer ≡ g.W.Sink.broken l.fn.writer;
}
