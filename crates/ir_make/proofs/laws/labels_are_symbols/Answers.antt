use Rattle.ir_make.proofs.LabelNames.{source_labels_are_named, symbol_of_named_label}
use Rattle.ir_make.proofs.laws.labels_are_symbols.Goals as goal

pub returns-clause-named : goal.returns-clause-named
returns-clause-named c = source_labels_are_named

pub returns-clause-symbol : goal.returns-clause-symbol
returns-clause-symbol c = symbol_of_named_label
