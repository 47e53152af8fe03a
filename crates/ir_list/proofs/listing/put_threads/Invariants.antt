use Rattle.std.proofs.Common.{◌≡◌}
use Rattle.ir_list.specs.Listing.{entry_thread_line, entry_threads_text}
use Rattle.ir_list.proofs.Written.{Written, lines_left}
use Rattle.ir_list.proofs.listing.put_threads.Given as goal

-- the lines so far, and those that are left
abbrev pub invariant-loop-number : goal.invariant-loop-number
invariant-loop-number g l = record {
  text :
      Written (g.O.Sink.written l.fn.out) (g.O.Sink.written l.out) (lines_left (entry_thread_line l.symbols) l.number l.entries)
      (entry_threads_text l.symbols l.entries);
  failed : g.O.Sink.broken l.out ≡ g.O.Sink.broken l.fn.out;
}
