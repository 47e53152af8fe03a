use Rattle.std.proofs.Common.{rules, ap, ◌∙◌, ◌-◌}
use Rattle.ir_record.specs.declared.turns.Turns.{Turns}
use Rattle.ir_schedule.proofs.Turns.{order_last_lengthened, looked_up_item_same}
use Rattle.ir_schedule.proofs.note.lengthen.Goals as goal

pub returns-in-Some-clause-noted : goal.returns-in-Some-clause-noted
returns-in-Some-clause-noted c = λ _.
    let some = c.if-is_empty.ensures in
    order_last_lengthened c.args.turns.now.items (c.len-last.result - 1) c.args.thread c.args.count c.in-Some.sum
    c.index-2.result.now (search rules) c.index-2.ensures
    (ap (λ (x : Turns). x.thread) (looked_up_item_same c.args.turns.now.items (c.len-last.result - 1) c.index-2.result.now c.index.result.now (search rules) c.index-2.ensures c.index.ensures)
    ∙ c.if-index-thread.false)
    c.in-Some.ensures.1
