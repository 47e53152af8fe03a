use Rattle.std.proofs.Common.{◌≡◌, take}
use Rattle.std.specs.Prelude.{flat_map}
use Rattle.std.specs.String.{string_bytes}
use Rattle.ir_list.specs.Listing.{symbol_line}
use Rattle.ir_list.proofs.lines.word_lines.Given as goal

-- the lines of the symbols so far
abbrev pub invariant-loop-symbol : goal.invariant-loop-symbol
invariant-loop-symbol l = string_bytes l.lines ≡ flat_map symbol_line (take l.symbol-index l.symbol-items)
