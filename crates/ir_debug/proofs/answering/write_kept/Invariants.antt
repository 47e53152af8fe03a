use Rattle.std.specs.Prelude.{flat_map}
use Rattle.std.proofs.Common.{◌≡◌, drop}
use Rattle.ir_text.specs.Buffered.{Buffered}
use Rattle.ir_debug.specs.Machine.{kept_line}
use Rattle.ir_debug.proofs.answering.write_kept.Given as goal

-- the lines that are written, and those of the other cuts
abbrev pub invariant-loop-i : goal.invariant-loop-i
invariant-loop-i g l = record {
  text : Buffered (g.W.Sink.written l.fn.writer) (g.W.Sink.written l.writer) (flat_map kept_line (drop l.i l.kept)) (flat_map kept_line l.kept);
  broken : g.W.Sink.broken l.writer ≡ g.W.Sink.broken l.fn.writer;
}
