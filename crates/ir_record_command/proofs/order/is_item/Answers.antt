use Rattle.std.proofs.Common.{Bool, sym, ap, ◌∙◌}
use Rattle.std.specs.Prelude.{◌&&◌}
use Rattle.ir_record_command.specs.Order.{is_digits}
use Rattle.ir_record_command.proofs.Items.{is_item_counted_parts}
use Rattle.ir_record_command.proofs.order.is_item.Goals as goal

pub returns-then-is_turn : goal.returns-then-is_turn
returns-then-is_turn c = c.is_digits.ensures ∙ sym (is_item_counted_parts c.args.item.now c.first_part.result.0.now c.in-Some.count.now
    (rw c.in-Some.is at c.first_part.ensures.parts)
    ∙ ap (λ (z : Bool). z && is_digits c.in-Some.count.now) (sym c.is_turn-in-Some.ensures ∙ c.if-is_turn.true))
