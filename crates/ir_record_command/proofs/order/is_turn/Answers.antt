use Rattle.std.proofs.Common.{◌≡◌, List, ℕ, true, false, length, sym, ap, ◌∙◌}
use Rattle.std.specs.Prelude.{◌==◌}
use Rattle.ir_record_command.proofs.Items.{is_turn_past_mark}
use Rattle.ir_record_command.proofs.order.is_turn.Goals as goal

pub returns-else-is_empty : goal.returns-else-is_empty
returns-else-is_empty c =
    let rest = c.in-Some.rest.now in
    let some : false ≡ (length rest == 0) = sym c.if-is_empty.false ∙ c.is_empty.ensures in
    c.if-is_empty.false ∙ sym (is_turn_past_mark c.args.text.now c.first_part.result.0.now rest (rw c.in-Some.is at c.first_part.ensures.parts)
    (λ e. let none : (length rest == 0) ≡ true = ap (λ (z : List ℕ). length z == 0) e in cc (some, none)))
