use Rattle.std.proofs.Common.{◌≡◌, ◌+◌, ◌≤◌, length}
use Rattle.ir_names.specs.Lines.{names_at, names_from, text_lines}
use Rattle.ir_names.proofs.reading.read_names.Given as goal

-- the names so far, and those of the text that is left
abbrev pub invariant-loop-rest : goal.invariant-loop-rest
invariant-loop-rest l = record {
  names : names_from l.names (l.number + 1) (text_lines l.rest) ≡ names_at l.fn.bytes;
  small : l.number + length l.rest ≤ length l.fn.bytes;
}

abbrev pub decreases-loop-rest : goal.decreases-loop-rest
decreases-loop-rest l = length l.rest
