use Rattle.std.proofs.Common.{sym, ap, ◌∙◌}
use Rattle.std.proofs.lemmas.List.Folds.{list_all-map}
use Rattle.std.specs.List.{list_all}
use Rattle.ir_schedule.specs.Conditions.{as_fact, as_literal, is_about}
use Rattle.ir_schedule.proofs.condition.Condition.is_about.Goals as goal

pub returns : goal.returns
returns c =
    let guest = c.args.image.now in
    c.each_is_about.ensures
    ∙ ap (list_all (λ l. is_about (as_fact l.fact) guest)) c.as_slice.ensures.value
    ∙ sym (list_all-map (λ l. is_about l.fact guest) as_literal c.args.self.now.alternatives.items)
