use Rattle.std.proofs.Common.{ap, ◌∙◌}
use Rattle.std.specs.Prelude.{is_some}
use Rattle.ir_symbols.specs.Symbols.{symbol_of}
use Rattle.ir_make.proofs.LabelNames.{symbol_of_named_label}
use Rattle.ir_make.proofs.mapping.label_symbol.Goals as goal

pub unwrap-requires : goal.unwrap-requires
unwrap-requires c = ap is_some (c.in_ok-symbol.ensures
    ∙ ap (λ kind. symbol_of c.args.place.address kind c.args.name.now) c.letter_of.ensures
    ∙ symbol_of_named_label (c.args.name.now, c.args.place) c.requires)
