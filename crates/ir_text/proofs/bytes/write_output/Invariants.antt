use Rattle.std.proofs.Common.{◌≡◌, ◌++◌, length}
use Rattle.ir_text.specs.Buffered.{Buffered}
use Rattle.ir_text.specs.Texts.{output_lines, output_text}
use Rattle.ir_text.specs.Parts.{lines_for}
use Rattle.ir_text.proofs.bytes.write_output.Given as goal

abbrev pub invariant-loop-rest : goal.invariant-loop-rest
invariant-loop-rest g l = record {
  text :
      Buffered (g.W.Sink.written l.fn.writer) (g.W.Sink.written l.writer)
      (l.text.items ++ output_lines (lines_for 32 (length l.rest)) l.rest) (output_text l.printed);
  broken : g.W.Sink.broken l.writer ≡ g.W.Sink.broken l.fn.writer;
}

abbrev pub decreases-loop-rest : goal.decreases-loop-rest
decreases-loop-rest g l = length l.rest
