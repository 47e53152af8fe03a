use Rattle.std.proofs.Common.{◌∙◌, get_or, sym, subst, arith}
use Rattle.std.proofs.lemmas.Option.{same_Some, slice_get_within, slice_get-get_or}
use Rattle.ir_picture.specs.declared.placed_box.PlacedBox.{PlacedBox}
use Rattle.ir_holds.specs.Held.{IsHeld}
use Rattle.ir_holds.proofs.Defaults.{no_box}
use Rattle.ir_holds.proofs.Checked.{held_with_next_box, held_boxes_equal}
use Rattle.ir_holds.proofs.checking.are_held.Goals as goal

pub loop-number-preserved : goal.loop-number-preserved
loop-number-preserved c =
    let boxes = c.args.boxes.now in
    let n = c.loop-number.number in
    let own : PlacedBox = get_or boxes n no_box in
    let there = slice_get-get_or boxes n no_box c.loop-number-test.true in
    let right = c.right_box-right.result in
    let yes = c.if-not-is_at.false in
    let same = held_boxes_equal right own (c.right_box-right.ensures.events own there) (sym (c.is_at.ensures.start yes)) (sym (c.is_at.ensures.end yes))
    (sym (c.is_at.ensures.came yes)) (c.right_box-right.ensures.row own there) in
    held_with_next_box c.args.trace.now boxes c.args.spans.now n c.loop-number.invariant
    (λ b s at goes. subst (λ (x : PlacedBox). IsHeld c.args.trace.now boxes c.args.spans.now x s) (same ∙ same_Some own b (sym there ∙ at))
    (c.right_box-right.ensures.held s goes))

pub returns : goal.returns
returns c = λ is k b s at there.
    let within = slice_get_within c.args.boxes.now k b at in
    let past = c.loop-number-test.false in
    let end = c.loop-number.auto.number-end in
    c.loop-number.invariant k b s (omega (arith, within, past, end)) at there
