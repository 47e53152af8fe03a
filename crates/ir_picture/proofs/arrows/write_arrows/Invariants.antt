use Rattle.std.proofs.Common.{◌≡◌, ◌++◌, false, drop}
use Rattle.ir_text.specs.Buffered.{Buffered}
use Rattle.ir_picture.specs.Chrome.{all_arrows}
use Rattle.ir_picture.proofs.arrows.write_arrows.Given as goal

abbrev pub invariant-loop-number : goal.invariant-loop-number
invariant-loop-number g l = record {
  text :
      Buffered (g.O.Sink.written l.fn.out) (g.O.Sink.written l.out) (l.text.items ++ all_arrows l.number (drop l.number l.sights))
      (l.fn.text.items ++ all_arrows 0 l.sights);
  works : g.O.Sink.broken l.out ≡ false;
}
