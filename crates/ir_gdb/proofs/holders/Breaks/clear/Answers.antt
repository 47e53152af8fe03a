use Rattle.std.proofs.Common.{rules, ap, ◌∙◌}
use Rattle.std.proofs.lemmas.Fn.{filter_same}
use Rattle.ir_gdb.specs.Setting.{breaks_without}
use Rattle.ir_gdb.proofs.holders.Breaks.clear.Goals as goal

pub returns : goal.returns
returns c = filter_same _ _ _ (λ x b f' k. search rules) _ _ c.retain.ensures.filtered ∙ ap (λ z. breaks_without z c.args.point) c.self.view_is
