use Rattle.std.proofs.Common.{sym, ap, ◌∙◌}
use Rattle.std.specs.List.{list_any}
use Rattle.ir_schedule.specs.Conditions.{as_literal, holds, end_state}
use Rattle.ir_schedule.proofs.Texts.{list_any-map}
use Rattle.ir_schedule.proofs.condition.Condition.holds.Goals as goal

pub returns : goal.returns
returns c =
    let o = end_state c.args.flat.now in
    c.some_holds.ensures
    ∙ ap (list_any (λ l. holds (as_literal l) o)) c.as_slice.ensures.value
    ∙ sym (list_any-map (λ l. holds l o) as_literal c.args.self.now.alternatives.items)
