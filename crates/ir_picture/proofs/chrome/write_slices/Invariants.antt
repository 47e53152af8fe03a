use Rattle.std.proofs.Common.{◌≡◌, ◌++◌, false, drop, flat_map}
use Rattle.ir_text.specs.Buffered.{Buffered}
use Rattle.ir_picture.specs.Chrome.{box_line}
use Rattle.ir_picture.proofs.chrome.write_slices.Given as goal

abbrev pub invariant-loop-own : goal.invariant-loop-own
invariant-loop-own g l = record {
  text :
      Buffered (g.O.Sink.written l.fn.out) (g.O.Sink.written l.out)
      (l.text.items ++ flat_map (box_line l.trace l.stale) (drop l.own-index l.boxes))
      (l.fn.text.items ++ flat_map (box_line l.trace l.stale) l.boxes);
  works : g.O.Sink.broken l.out ≡ false;
}
