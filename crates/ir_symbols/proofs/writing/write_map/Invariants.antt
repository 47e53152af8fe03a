use Rattle.std.proofs.Common.{◌≡◌, take}
use Rattle.ir_symbols.specs.Maps.{map_text}
use Rattle.ir_symbols.proofs.writing.write_map.Given as goal

-- the lines of the symbols so far
abbrev pub invariant-loop-symbol : goal.invariant-loop-symbol
invariant-loop-symbol l = l.map.items ≡ map_text (take l.symbol-index l.symbols)
