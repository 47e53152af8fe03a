use Rattle.std.proofs.Common.{◌++◌, ◌∙◌}
use Rattle.std.proofs.lemmas.Result.{on_ok_weaker}
use Rattle.ir_picture.specs.Numbers.{fold_numbers, row_of}
use Rattle.ir_picture.proofs.Texts.{box_puts_append_row}
use Rattle.ir_picture.proofs.rows.push_box.Goals as goal

pub returns : goal.returns
returns c = on_ok_weaker c.push_words.result
    (λ e. box_puts_append_row c.args.text.now.items c.events_in-events.result.now c.args.own.now (fold_numbers c.objects.result c.events_in-events.result.now) _ _ _
    c.in_ok-push_box_start.ensures c.in_ok-push_fold.ensures e
    ∙ (λ i. c.args.text.now.items ++ row_of (c.objects.ensures.value i) (c.events_in-events.ensures i) c.args.own.now))
    c.push_words.ensures
