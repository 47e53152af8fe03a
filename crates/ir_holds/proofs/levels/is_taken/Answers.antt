use Rattle.std.proofs.lemmas.List.Elements.{Contains-get_or}
use Rattle.std.proofs.lemmas.Option.{slice_get-get_or}
use Rattle.ir_holds.proofs.Opened.{not_taken_to_next, not_taken_by_any_box}
use Rattle.ir_holds.proofs.levels.is_taken.Goals as goal

pub takes-requires-clause-number : goal.takes-requires-clause-number
takes-requires-clause-number c = c.requires.held _ (Contains-get_or c.args.held.now c.loop-number.number-index 0 c.loop-number-test.true)

pub loop-number-preserved : goal.loop-number-preserved
loop-number-preserved c = not_taken_to_next c.args.spans.now c.args.rows.now c.args.held.now c.args.own.now c.args.row c.loop-number.number-index _
    c.loop-number.invariant (slice_get-get_or c.args.held.now c.loop-number.number-index 0 c.loop-number-test.true) (c.takes.ensures.free c.if-takes.false)

pub returns-clause-free : goal.returns-clause-free
returns-clause-free c = λ is taken. not_taken_by_any_box c.args.spans.now c.args.rows.now c.args.held.now c.args.own.now c.args.row c.loop-number.number-index _
    c.loop-number.invariant c.loop-number-test.false c.requires.all taken
