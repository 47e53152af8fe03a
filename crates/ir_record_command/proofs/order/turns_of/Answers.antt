use Rattle.std.proofs.Common.{sym, ◌∙◌}
use Rattle.ir_record_command.proofs.Items.{spelled_item_is_turns, unspelled_item_is_none}
use Rattle.ir_record_command.proofs.order.turns_of.Goals as goal

pub returns-in_ok-count-in-Some : goal.returns-in_ok-count-in-Some
returns-in_ok-count-in-Some c =
    spelled_item_is_turns c.args.threads c.args.item.now c.first_part.result.0.now c.in-Some.count.now (c.in_ok-thread.thread, c.in_ok-thread.refused) c.in_ok-count-in-Some.count
    (rw c.in-Some.is at c.first_part.ensures.parts)
    (sym c.turn_of.ensures ∙ c.in_ok-thread.was) (sym c.number_within.ensures.value ∙ c.in_ok-count-in-Some.was)

pub returns-in_err-count-in-Some : goal.returns-in_err-count-in-Some
returns-in_err-count-in-Some c =
    rw c.from_residual-in_err-count-in-Some.ensures
    (unspelled_item_is_none c.args.threads c.args.item.now c.first_part.result.0.now c.in-Some.count.now (rw c.in-Some.is at c.first_part.ensures.parts)
    (sym c.number_within.ensures.value ∙ c.in_err-count-in-Some.was))
