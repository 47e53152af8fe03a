use Rattle.std.proofs.Common.{rules, ap, ◌∙◌}
use Rattle.std.proofs.lemmas.Fn.{filter_same}
use Rattle.ir_debug.specs.Debugging.{points_without}
use Rattle.ir_debug.proofs.points.Points.clear.Goals as goal

pub returns : goal.returns
returns c = filter_same _ _ _ (λ x b f' k. search rules) _ _ c.retain.ensures.filtered ∙ ap (λ z. points_without z c.args.number) c.self.view_is
