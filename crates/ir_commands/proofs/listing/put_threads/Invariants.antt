use Rattle.std.proofs.Common.{◌≡◌, false, drop}
use Rattle.ir_text.specs.Buffered.{Buffered}
use Rattle.ir_commands.specs.Listing.{threads_listing}
use Rattle.ir_commands.proofs.listing.put_threads.Given as goal

-- the lines that are written, and those of the other threads
abbrev pub invariant-loop-number : goal.invariant-loop-number
invariant-loop-number g l = record {
  text :
      Buffered (g.W.Sink.written l.fn.out) (g.W.Sink.written l.out) (threads_listing l.number (drop l.number l.threads))
      (threads_listing 0 l.threads);
  works : g.W.Sink.broken l.out ≡ false;
}
