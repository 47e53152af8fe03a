use Rattle.std.proofs.Common.{◌≡◌, take}
use Rattle.ir_make.specs.Mapping.{label_symbols}
use Rattle.ir_make.proofs.mapping.label_symbols.Given as goal

abbrev pub invariant-loop-index : goal.invariant-loop-index
invariant-loop-index l = l.symbols.items ≡ label_symbols (take l.index l.labels)
