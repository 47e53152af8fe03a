use Rattle.std.proofs.Common.{[], ◌∷◌, ◌++◌, sym, ◌∙◌}
use Rattle.ir_make.proofs.Labels.{label_symbols_step}
use Rattle.ir_make.proofs.mapping.push_symbol.Goals as goal

pub returns : goal.returns
returns c = c.in_ok-push.ensures.items
    ∙ (λ j. c.requires.before j ++ c.in_ok-label_symbol.ensures j ∷ [])
    ∙ sym (label_symbols_step c.args.labels.now c.args.index (c.in-Some.name.now, c.in-Some.place) (sym c.in-Some.ensures))
