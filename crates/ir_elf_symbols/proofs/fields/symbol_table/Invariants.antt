use Rattle.std.proofs.Common.{◌≡◌}
use Rattle.ir_elf_symbols.specs.Sections.{first_table}
use Rattle.ir_elf_symbols.proofs.fields.symbol_table.Given as goal

abbrev pub invariant-loop-number : goal.invariant-loop-number
invariant-loop-number l = l.found ≡ first_table l.file l.number
