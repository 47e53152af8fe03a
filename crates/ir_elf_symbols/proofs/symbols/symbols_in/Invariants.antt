use Rattle.std.proofs.Common.{◌≡◌}
use Rattle.ir_elf_symbols.specs.Symbols.{first_symbols}
use Rattle.ir_elf_symbols.proofs.symbols.symbols_in.Given as goal

abbrev pub invariant-loop-number : goal.invariant-loop-number
invariant-loop-number l = l.symbols.items ≡ first_symbols l.file l.table.place l.names l.number
