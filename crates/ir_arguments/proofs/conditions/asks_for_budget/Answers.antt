use Rattle.std.proofs.Common.{ap, ◌∙◌}
use Rattle.std.specs.List.{list_any}
use Rattle.clap.proofs.WalkLemmas.{list_any-map}
use Rattle.ir_schedule.specs.Conditions.{Literal, as_fact, as_literal}
use Rattle.ir_schedule.specs.declared.condition.Literal as declared
use Rattle.ir_arguments.specs.Exploring.{is_budget}
use Rattle.ir_arguments.proofs.conditions.asks_for_budget.Goals as goal

pub returns : goal.returns
returns c = c.some_is_budget.ensures ∙ ap (list_any (λ (l : declared.Literal). is_budget (as_fact l.fact))) c.as_slice.ensures.value
    ∙ list_any-map (λ (l : Literal). is_budget l.fact) as_literal c.args.condition.now.alternatives.items
