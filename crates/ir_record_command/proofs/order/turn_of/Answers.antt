use Rattle.std.proofs.Common.{◌≡◌, List, ℕ, true, false, length, sym, ap, ◌∙◌}
use Rattle.std.specs.Prelude.{◌==◌}
use Rattle.ir_record_command.proofs.Items.{text_past_mark_none}
use Rattle.ir_record_command.proofs.order.turn_of.Goals as goal

pub returns-in-Some-2 : goal.returns-in-Some-2
returns-in-Some-2 c =
    let rest = c.in-Some.rest.now in
    let some : false ≡ (length rest == 0) = sym c.if-is_empty.false ∙ c.is_empty.ensures in
    sym (text_past_mark_none c.args.threads c.args.text.now c.first_part.result.0.now rest (rw c.in-Some.is at c.first_part.ensures.parts)
    (λ e. let none : (length rest == 0) ≡ true = ap (λ (z : List ℕ). length z == 0) e in cc (some, none)))
