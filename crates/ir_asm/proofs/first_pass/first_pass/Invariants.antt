use Rattle.std.proofs.Common.{◌≡◌, ◌+◌, ◌≤◌, length}
use Rattle.ir_asm.specs.Source.{source_lines, first_pass}
use Rattle.ir_asm.proofs.Texts.{size_left}
use Rattle.ir_asm.proofs.Passing.{lines_left}
use Rattle.ir_asm.proofs.first_pass.first_pass.Given as goal

-- the lines that are left
abbrev pub invariant-loop-more : goal.invariant-loop-more
invariant-loop-more l = record {
  whole_is : first_pass l.number (lines_left l.more l.rest) l.scan ≡ first_pass 1 (source_lines l.fn.source) l.fn.scan;
  count : l.number + length (lines_left l.more l.rest) ≡ length (source_lines l.fn.source) + 1;
  small : l.number + size_left l.more l.rest ≤ length l.fn.source + 2;
}

abbrev pub decreases-loop-more : goal.decreases-loop-more
decreases-loop-more l = size_left l.more l.rest
