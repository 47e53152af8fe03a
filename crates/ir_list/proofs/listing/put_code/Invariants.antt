use Rattle.std.proofs.Common.{◌≡◌, ◌+◌, ◌*◌}
use Rattle.ir_image.specs.Guest.{code_start}
use Rattle.ir_list.specs.Listing.{word_lines, code_lines_text}
use Rattle.ir_list.proofs.Written.{Written, lines_left}
use Rattle.ir_list.proofs.listing.put_code.Given as goal

-- the lines so far, and those that are left
abbrev pub invariant-loop-number : goal.invariant-loop-number
invariant-loop-number g l = record {
  text :
      Written (g.O.Sink.written l.fn.out) (g.O.Sink.written l.out)
      (lines_left (λ number word. word_lines l.symbols (code_start + 4 * number) word) l.number l.code) (code_lines_text l.symbols l.code);
  failed : g.O.Sink.broken l.out ≡ g.O.Sink.broken l.fn.out;
}
