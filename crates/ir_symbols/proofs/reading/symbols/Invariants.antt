use Rattle.std.proofs.Common.{◌≡◌, ◌+◌, ◌≤◌, length}
use Rattle.ir_symbols.specs.Maps.{symbols_at, symbols_from}
use Rattle.ir_symbols.proofs.Lines.{lines_left, size_left, with_all}
use Rattle.ir_symbols.proofs.reading.symbols.Given as goal

-- the symbols so far, and those of the lines that are left
abbrev pub invariant-loop-rest : goal.invariant-loop-rest
invariant-loop-rest l = record {
  symbols : with_all l.symbols.items (symbols_from (l.number + 1) (lines_left l.rest)) ≡ symbols_at l.fn.bytes;
  small : l.number + size_left l.rest ≤ length l.fn.bytes + 1;
}

abbrev pub decreases-loop-rest : goal.decreases-loop-rest
decreases-loop-rest l = size_left l.rest
