use Rattle.std.proofs.Common.{◌≡◌, ◌++◌, false, drop, flat_map}
use Rattle.ir_text.specs.Buffered.{Buffered}
use Rattle.ir_run_picture.specs.Chrome.{drawn_line}
use Rattle.ir_run_picture.proofs.chrome.write_slices.Given as goal

abbrev pub invariant-loop-own : goal.invariant-loop-own
invariant-loop-own g l = record {
  text :
      Buffered (g.O.Sink.written l.fn.out) (g.O.Sink.written l.out)
      (l.text.items ++ flat_map (drawn_line l.fitted l.shown.kept.items) (drop l.own-index l.drawn))
      (l.fn.text.items ++ flat_map (drawn_line l.fitted l.shown.kept.items) l.drawn);
  works : g.O.Sink.broken l.out ≡ false;
}
